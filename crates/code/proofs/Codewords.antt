-- Every well-formed code pairs data words and code words one to one.
use Rattle.std.proofs.Common.{ℕ, List, sym, refl, ap, ◌∙◌}
use Rattle.code.specs.Words.{gather}
use Rattle.code.specs.Codes.{rows, Wellformed, check_columns}
use Rattle.code.specs.Laws.{Linear, SyndromesFit, OneCodeword, OneDataWord, ReadsBack}
use Rattle.code.proofs.Combining.{combine_xor, combine_pow, combine_lt}
use Rattle.code.proofs.Gathering.{gather_lt}
use Rattle.code.proofs.Systematic.{constructed_encodes, encodes_once}
use Rattle.code.proofs.Units.{systematic}

pub linear : (cs : List ℕ) → Linear cs
linear cs = record { additive = combine_xor cs; single = combine_pow cs }

module _ (cs ds : List ℕ) (w : Wellformed cs ds) where
  pub syndromes_fit : SyndromesFit cs ds
  syndromes_fit v = combine_lt (rows cs ds) cs v w.narrow

  pub one_codeword : OneCodeword cs ds
  one_codeword d h = let s = systematic cs ds w in
      (constructed_encodes cs ds (check_columns cs ds) s d h, encodes_once cs ds (check_columns cs ds) s d)

  pub reads_back : ReadsBack cs ds
  reads_back d h = (one_codeword d h).0.1

  pub one_data_word : OneDataWord cs ds
  one_data_word v h z = (
    gather_lt ds v,
    sym ((one_codeword (gather ds v) (gather_lt ds v)).1 v (h, refl, z)),
    λ d k e. sym (reads_back d k) ∙ ap (gather ds) e,
  )
