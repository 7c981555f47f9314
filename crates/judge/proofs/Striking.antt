-- Code words and the patterns that strike them, in a well-formed code.
use Rattle.std.proofs.Common.{◌≡◌, ℕ, ◌^◌, ◌<◌, ◌≢◌, List, map, length, sym, ap, ◌∙◌}
use Rattle.std.specs.Int.Bits.{bit_xor, xor_assoc, xor_lt, xor_self, xor_zero_l, xor_zero_r}
use Rattle.code.specs.Codes.{Wellformed, check_columns, encoding, syndrome}
use Rattle.code.specs.Words.{gather, place, unit}
use Rattle.code.proofs.Codewords.{linear, one_codeword, one_data_word, reads_back}
use Rattle.code.proofs.Combining.{combine_zero}

-- a pattern that strikes twice does nothing
pub xor_undo : (a p : ℕ) → bit_xor (bit_xor a p) p ≡ a
xor_undo a p = xor_assoc a p p ∙ (ap (bit_xor a) (xor_self p) ∙ xor_zero_r a)

-- different patterns differ in some column
pub xor_apart : (p q : ℕ) → p ≢ q → bit_xor p q ≢ 0
xor_apart p q ne z = ne (sym (xor_undo p q) ∙ (ap (λ x. bit_xor x q) z ∙ xor_zero_l q))

pub syndrome_zero : (cs : List ℕ) → syndrome cs 0 ≡ 0
syndrome_zero cs = combine_zero cs

-- two words with one syndrome differ by a code word
pub syndrome_apart : (cs : List ℕ) (p q : ℕ) → syndrome cs p ≡ syndrome cs q → syndrome cs (bit_xor p q) ≡ 0
syndrome_apart cs p q e = (linear cs).additive p q ∙ (ap (λ s. bit_xor s (syndrome cs q)) e ∙ xor_self (syndrome cs q))

place_zero : (js : List ℕ) → place js 0 ≡ 0
place_zero js = combine_zero (map unit js)

pub encoding_zero : (cs ds : List ℕ) → encoding cs ds 0 ≡ 0
encoding_zero cs ds =
    let checks : List ℕ = check_columns cs ds in
    ap (λ w. bit_xor w (place checks (syndrome cs w))) (place_zero ds)
    ∙ (xor_zero_l (place checks (syndrome cs 0)) ∙ (ap (place checks) (syndrome_zero cs) ∙ place_zero checks))

module _ (cs ds : List ℕ) (good : Wellformed cs ds) where
  pub encoding_below : (d : ℕ) → d < 2 ^ length ds → encoding cs ds d < 2 ^ length cs
  encoding_below d h = (one_codeword cs ds good d h).0.0

  -- a struck code word has the syndrome of the pattern
  pub struck_syndrome : (d p : ℕ) → d < 2 ^ length ds → syndrome cs (bit_xor (encoding cs ds d) p) ≡ syndrome cs p
  struck_syndrome d p h =
      (linear cs).additive (encoding cs ds d) p
      ∙ (ap (λ s. bit_xor s (syndrome cs p)) (one_codeword cs ds good d h).0.2 ∙ xor_zero_l (syndrome cs p))

  -- with the pattern undone, its data bits are the data word
  pub struck_data : (d p : ℕ) → d < 2 ^ length ds → gather ds (bit_xor (bit_xor (encoding cs ds d) p) p) ≡ d
  struck_data d p h = ap (gather ds) (xor_undo (encoding cs ds d) p) ∙ reads_back cs ds good d h

  -- two words of one syndrome differ by the encoding of the data bits in which they differ
  pub apart_encoded : (p q : ℕ) → p < 2 ^ length cs → q < 2 ^ length cs → syndrome cs p ≡ syndrome cs q → encoding cs ds (gather ds (bit_xor p q)) ≡ bit_xor p q
  apart_encoded p q a b e = (one_data_word cs ds good (bit_xor p q) (xor_lt (length cs) p q a b) (syndrome_apart cs p q e)).1
