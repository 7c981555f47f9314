use Rattle.std.proofs.Common.{◌≡◌, ℕ, zero, suc, ◌+◌, ◌/◌, ◌<◌, ltb, true, List, ◌∷◌, map, IfOk, string_bytes, rules, refl, ap, ◌∙◌, subst, arith}
use Rattle.std.specs.List.{range_with_len}
use Rattle.std.specs.Str.{encode_utf8_all}
use Rattle.std.proofs.lemmas.Bool.{lt-ltb}
use lib.Utf8.{encode}
use Rattle.std.proofs.lemmas.Iterator.{YieldsList-from_range, YieldsList-from_map, text_from_collect}
use Rattle.code.specs.Words.{bit}
use Rattle.code.proofs.Bits.{bit_first, bit_next, bit_lt}
use Rattle.picture.specs.Drawn.{drawn}
use Rattle.picture.proofs.bits.bits_text.Goals as goal

ascii : (c : ℕ) (cs : List ℕ) → c < 50 → encode_utf8_all (c ∷ cs) ≡ c ∷ encode_utf8_all cs
unfolding encode
ascii c cs h = let low : ltb c 128 ≡ true = lt-ltb c 128 (omega arith) in rw low

-- the bits from column i + 1 on are those of half the word from column i on
halved : (n w i : ℕ) → map (λ j. 48 + bit w j) (range_with_len (i + 1) n) ≡ map (λ j. 48 + bit (w / 2) j) (range_with_len i n)
halved zero w i = refl
halved (suc n) w i = let e : i + 1 ≡ suc i = omega arith in rw (e, bit_next w i, ← e) (ap (λ (l : List ℕ). (48 + bit (w / 2) i) ∷ l) (halved n w (i + 1)))

encoded : (n w : ℕ) → encode_utf8_all (map (λ j. 48 + bit w j) (range_with_len 0 n)) ≡ drawn n w
encoded zero w = refl
encoded (suc n) w =
    let low = bit_lt w 0 in
    ascii (48 + bit w 0) (map (λ j. 48 + bit w j) (range_with_len 1 n)) (omega arith) ∙ rw (halved n w 0, bit_first w, encoded n (w / 2))

pub returns : goal.returns
returns c =
    let w : ℕ = c.args.word in
    let made : IfOk c.collect.result (λ t. string_bytes t ≡ encode_utf8_all (map (λ j. 48 + bit w j) (range_with_len 0 c.args.count))) =
    text_from_collect _ c.collect.ensures.ran (YieldsList-from_map _ (λ j. 48 + bit w j) (YieldsList-from_range 0 _ c.args.count c.map.ensures.source (omega arith)) c.map.ensures.closure (λ x r q k. search rules)) in
    subst (λ (l : List ℕ). IfOk c.collect.result (λ t. string_bytes t ≡ l)) (encoded c.args.count w) made
