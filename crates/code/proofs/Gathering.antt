-- The bits of a word at some places.
use Rattle.std.proofs.Common.{◌≡◌, ℕ, ◌+◌, ◌*◌, ◌^◌, ◌<◌, List, [], ◌∷◌, length, sym, refl, ◌∙◌, ap₂, pow-suc, arith, lit<}
use lib.Bits.{bit_xor, xor_block}
use Rattle.code.specs.Words.{bit, gather}
use Rattle.code.proofs.Bits.{bit_lt, bit-bit_xor}

pub gather_xor : (js : List ℕ) (a b : ℕ) → gather js (bit_xor a b) ≡ bit_xor (gather js a) (gather js b)
gather_xor [] a b = refl
gather_xor (j ∷ js) a b =
    ap₂ (λ x y. x * 2 + y) (gather_xor js a b) (bit-bit_xor a b j)
    ∙ sym (xor_block 1 (gather js a) (gather js b) (bit a j) (bit b j) (bit_lt a j) (bit_lt b j))

pub gather_lt : (js : List ℕ) (w : ℕ) → gather js w < 2 ^ length js
gather_lt [] w = lit< tt
gather_lt (j ∷ js) w = let e = pow-suc 2 (length js) in let h = gather_lt js w in let k = bit_lt w j in omega arith
