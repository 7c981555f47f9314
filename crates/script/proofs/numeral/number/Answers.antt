use Rattle.std.proofs.Common.{◌≡◌, ℕ, ◌^◌, ◌<◌, List, Ok, Err, decimal, Result, sym, ap, ◌∙◌, subst, arith, rules}
use Rattle.std.specs.Str.Parse.{IsNumeral, digits_value}
use Rattle.std.proofs.lemmas.Fmt.{decimal_is_IsNumeral}
use Rattle.script.specs.Numerals.{Number, Reads}
use Rattle.script.proofs.numeral.number.Goals as goal

-- what is written of n is a number of value n
written : (bs : List ℕ) (n : ℕ) → n < 2 ^ 64 → bs ≡ decimal n → Number bs × (digits_value 10 bs ≡ n)
written bs n small e =
    let d : IsNumeral 10 (decimal n) × (digits_value 10 (decimal n) ≡ n) = decimal_is_IsNumeral n small in
    let num : IsNumeral 10 bs = subst (λ (t : List ℕ). IsNumeral 10 t) (sym e) d.0 in
    let val : digits_value 10 bs ≡ n = ap (λ (t : List ℕ). digits_value 10 t) e ∙ d.1 in
    ((num, omega (arith, val)), val)

-- so it is read back as n
read_back : {E : Type 0} (bs : List ℕ) (r : Result ℕ E) → Reads bs r → (n : ℕ) → n < 2 ^ 64 → bs ≡ decimal n → r ≡ Ok n
read_back bs (Ok x) h n small e = ap Ok (h.1 ∙ (written bs n small e).1)
read_back bs (Err f) h n small e = absurd (h (written bs n small e).0)

pub returns-then-starts_with-clause-back : goal.returns-then-starts_with-clause-back
returns-then-starts_with-clause-back c = read_back c.args.word.now _ (search rules)

pub returns-clause-back : goal.returns-clause-back
returns-clause-back c = read_back c.args.word.now _ (search rules)
