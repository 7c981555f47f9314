-- What a hole with a width prints of a number or a letter: a cell of the table, or a label.
use Rattle.std.proofs.Common.{◌≡◌, ℕ, zero, suc, ◌+◌, ◌-◌, ◌^◌, Bool, true, false, cond, eqb, ◌==◌, codes, List, [], ◌∷◌, ◌++◌, map, length, decimal, refl, ap, sym, ◌∙◌, arith, append-nil}
use Rattle.std.proofs.lemmas.List.{flat_map_more}
use Rattle.std.proofs.lemmas.Bool.{ne_eqb}
use lib.Utf8.{encode}
use Rattle.std.specs.Fmt.{format_spec, styled_decimal, styled_text, padded_integral, padded, take_chars, char_count}
use Rattle.std.specs.List.{flat_map, range_with_len, repeat}
use Rattle.picture.specs.Pictured.{blanks, cell, kind, label, letter, number_cells, number_line}
use Rattle.picture.specs.Marked.{mark}
use Rattle.code.specs.Search.{among}
use Rattle.code.specs.Words.{bit}

-- what `{:>w}` prints of a number, and of a character
abbrev pub right_number : ℕ → ℕ → List ℕ
right_number w n = styled_decimal (format_spec 32 3 0 w (2 ^ 64 - 1)) n

abbrev pub right_char : ℕ → ℕ → List ℕ
right_char w x = styled_text (format_spec 32 3 0 w (2 ^ 64 - 1)) (encode x)

repeat_blanks : (n : ℕ) → repeat n (encode 32) ≡ blanks n
unfolding encode
repeat_blanks zero = refl
repeat_blanks (suc n) = ap (λ (l : List ℕ). 32 ∷ l) (repeat_blanks n)

-- a number at the right end of a cell
pub right_decimal : (w n : ℕ) → 32 ∷ right_number w n ≡ cell w (decimal n)
unfolding cell padded_integral char_count
right_decimal zero n = let none : 0 - length (decimal n) ≡ 0 = omega arith in rw none
right_decimal (suc w) n =
    let text : List ℕ = decimal n in
    let size : ℕ = suc w - length text in
    let short : size - 0 - 0 ≡ size = omega arith in
    let none : size - size ≡ 0 = omega arith in
    let wide : eqb (suc w) 0 ≡ false = ne_eqb (suc w) 0 (λ e. omega arith) in
    let whole : ℕ → ℕ → List ℕ = λ before after. 32 ∷ ((repeat before (encode 32) ++ [] ++ [] ++ []) ++ (text ++ repeat after (encode 32))) in
    rw wide
    (ap (λ k. whole k (k - k)) short ∙ (ap (whole size) none ∙ simp append-nil (ap (λ (l : List ℕ). 32 ∷ (l ++ text)) (repeat_blanks size))))

-- a number at the left end of six characters
pub left_decimal : (n : ℕ) → styled_decimal (format_spec 32 1 0 6 (2 ^ 64 - 1)) n ≡ label (decimal n)
unfolding label padded_integral char_count
left_decimal n =
    let text : List ℕ = decimal n in
    let short : 6 - length text - 0 - 0 - 0 ≡ 6 - length text = omega arith in
    ap (λ k. text ++ repeat k (encode 32)) short ∙ ap (λ l. text ++ l) (repeat_blanks (6 - length text))

-- `row`, a blank, and a number at the left end of two characters
pub row_label : (n : ℕ) → 114 ∷ 111 ∷ 119 ∷ 32 ∷ styled_decimal (format_spec 32 1 0 2 (2 ^ 64 - 1)) n ≡ label (114 ∷ 111 ∷ 119 ∷ 32 ∷ decimal n)
unfolding label padded_integral char_count
row_label n =
    let text : List ℕ = decimal n in
    let short : 2 - length text - 0 - 0 - 0 ≡ 6 - suc (suc (suc (suc (length text)))) = omega arith in
    let whole : List ℕ → List ℕ = λ l. 114 ∷ 111 ∷ 119 ∷ 32 ∷ (text ++ l) in
    ap (λ k. whole (repeat k (encode 32))) short ∙ ap whole (repeat_blanks (6 - suc (suc (suc (suc (length text))))))

-- one character after the blanks that fill its cell
right_one : (w c : ℕ) → 32 ∷ (repeat (suc w - 1) (encode 32) ++ (c ∷ repeat ((suc w - 1) - (suc w - 1)) (encode 32))) ≡ 32 ∷ (blanks (suc w - 1) ++ (c ∷ []))
right_one w c =
    let none : (suc w - 1) - (suc w - 1) ≡ 0 = omega arith in
    ap (λ k. 32 ∷ (repeat (suc w - 1) (encode 32) ++ (c ∷ repeat k (encode 32)))) none ∙ ap (λ (l : List ℕ). 32 ∷ (l ++ (c ∷ []))) (repeat_blanks (suc w - 1))

-- the letter of a kind at the right end of a cell
pub right_letter : (w : ℕ) (b : Bool) → 32 ∷ right_char w (cond b 100 99) ≡ cell w (cond b (codes "d") (codes "c"))
unfolding cell padded take_chars char_count encode
right_letter zero true = refl
right_letter zero false = refl
right_letter (suc w) true = let wide : eqb (suc w) 0 ≡ false = ne_eqb (suc w) 0 (λ e. omega arith) in rw wide (right_one w 100)
right_letter (suc w) false = let wide : eqb (suc w) 0 ≡ false = ne_eqb (suc w) 0 (λ e. omega arith) in rw wide (right_one w 99)

-- the mark of a column at the right end of a cell
right_mark : (w : ℕ) (b : Bool) → 32 ∷ right_char w (cond b 94 46) ≡ cell w (cond b 94 46 ∷ [])
unfolding cell padded take_chars char_count encode
right_mark zero true = refl
right_mark zero false = refl
right_mark (suc w) true = let wide : eqb (suc w) 0 ≡ false = ne_eqb (suc w) 0 (λ e. omega arith) in rw wide (right_one w 94)
right_mark (suc w) false = let wide : eqb (suc w) 0 ≡ false = ne_eqb (suc w) 0 (λ e. omega arith) in rw wide (right_one w 46)

-- the cells of a line of numbers
cells_shown : (w : ℕ) (ns : List ℕ) → flat_map (λ n. 32 ∷ right_number w n) ns ≡ number_cells w ns
cells_shown w [] = refl
cells_shown w (n ∷ ns) = ap (λ (l : List ℕ). l ++ flat_map (λ m. 32 ∷ right_number w m) ns) (right_decimal w n) ∙ ap (λ (l : List ℕ). cell w (decimal n) ++ l) (cells_shown w ns)

pub numbers_shown : (name front : List ℕ) (w : ℕ) (ns cells : List ℕ) → front ≡ label name → cells ≡ ns → front ++ flat_map (λ n. 32 ∷ right_number w n) cells ≡ number_line name w ns
unfolding number_line
numbers_shown name front w ns cells named same =
    ap (λ (l : List ℕ). l ++ flat_map (λ n. 32 ∷ right_number w n) cells) named ∙ (ap (λ (l : List ℕ). label name ++ l) (cells_shown w cells) ∙ ap (λ (l : List ℕ). label name ++ number_cells w l) same)

-- the cells of the line of the kinds
pub kinds_shown : (w : ℕ) (ds js : List ℕ) → flat_map (λ x. 32 ∷ right_char w x) (map (letter ds) js) ≡ flat_map (λ j. cell w (kind ds j)) js
kinds_shown w ds [] = refl
kinds_shown w ds (j ∷ js) = ap (λ (l : List ℕ). l ++ flat_map (λ x. 32 ∷ right_char w x) (map (letter ds) js)) (right_letter w (among ds j)) ∙ ap (λ (l : List ℕ). cell w (kind ds j) ++ l) (kinds_shown w ds js)

-- the cells of a line of marks
pub marks_shown : (w p : ℕ) (js : List ℕ) → flat_map (λ x. 32 ∷ right_char w x) (map (mark p) js) ≡ flat_map (λ j. cell w (mark p j ∷ [])) js
marks_shown w p [] = refl
marks_shown w p (j ∷ js) = ap (λ (l : List ℕ). l ++ flat_map (λ x. 32 ∷ right_char w x) (map (mark p) js)) (right_mark w (bit p j == 1)) ∙ ap (λ (l : List ℕ). cell w (mark p j ∷ []) ++ l) (marks_shown w p js)

-- the numbers below i + 1 are those below i, and i
range_more : (a n j : ℕ) → a + n ≡ j → range_with_len a (suc n) ≡ range_with_len a n ++ (j ∷ [])
range_more a zero j e = let same : a ≡ j = omega arith in ap (λ x. x ∷ []) same
range_more a (suc n) j e = ap (λ (l : List ℕ). a ∷ l) (range_more (a + 1) n j (omega arith))

-- one more line below the lines so far
pub line_more : (f : ℕ → List ℕ) (front was line after : List ℕ) (i : ℕ) → after ≡ was ++ line → line ≡ f i → was ≡ front ++ flat_map f (range_with_len 0 i) → after ≡ front ++ flat_map f (range_with_len 0 (i + 1))
line_more f front was line after i grown is inv =
    let next : i + 1 ≡ suc i = omega arith in
    let more : was ++ line ≡ (front ++ flat_map f (range_with_len 0 i)) ++ f i = rw (inv, is) in
    let longer : range_with_len 0 i ++ (i ∷ []) ≡ range_with_len 0 (i + 1) = sym (ap (range_with_len 0) next ∙ range_more 0 i i (omega arith)) in
    grown ∙ (more ∙ (flat_map_more f front (range_with_len 0 i) i ∙ ap (λ (l : List ℕ). front ++ flat_map f l) longer))
