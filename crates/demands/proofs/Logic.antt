-- What crate `logic` proves, together.
use mathlib.Core.List.{List}
use Rattle.logic.specs.Term.{Term}
use Rattle.logic.specs.Scope.{Signature}
use Rattle.logic.proofs.Fill.{exchange}
use Rattle.logic.proofs.FreeVariables.{free_laws}
use Rattle.logic.proofs.Monotone.{monotone}
use Rattle.logic.proofs.Substitution.{weaken, substitute, strengthen}
use Rattle.logic.proofs.Regularity.{regular}
use Rattle.logic.proofs.Proposition.{proposition_right}
use Rattle.logic.proofs.Completeness.{infer_right}
use Rattle.logic.proofs.Faults.{infer_refused}
use Rattle.logic.proofs.Derivable.{derivable_long}
use Rattle.logic.proofs.Places.{fault}
use Rattle.logic.proofs.SubjectReduction.{subject_reduction}
use Rattle.logic.proofs.Reading.{read_right}
use Rattle.logic.proofs.Malformed.{read_refused}
use Rattle.logic.proofs.Searches.{too_deep_first, first_miss_first}
use Rattle.logic.proofs.Check.{check_term_right, check_statement_right}
use Rattle.logic.proofs.SignatureList.{signature_right}
use Rattle.logic.proofs.Refused.{check_term_refused, check_statement_refused, signature_refused}
use Rattle.demands.specs.Logic.{WordLaws, Metatheory}

pub word_laws : WordLaws
word_laws = record {
  reads = read_right;
  malformed_at = read_refused;
  deep_at = too_deep_first;
  missed_at = first_miss_first;
  accepts = signature_right;
  bad_at = signature_refused;
  exchange = exchange;
  counts = free_laws;
}

pub metatheory : (Σ : List Term) → Signature Σ → Metatheory Σ
metatheory Σ sig = record {
  infers = infer_right Σ sig;
  faults = infer_refused Σ sig;
  derivable = derivable_long;
  places = fault Σ;
  term_passes = check_term_right Σ sig;
  term_refused = check_term_refused Σ sig;
  statement_passes = check_statement_right Σ sig;
  statement_refused = check_statement_refused Σ sig;
  regular = regular Σ sig;
  propositions = proposition_right Σ sig;
  weaken = weaken Σ sig;
  substitute = substitute Σ sig;
  strengthen = strengthen Σ sig;
  reduces = subject_reduction Σ sig;
  monotone = λ Σ'. monotone Σ';
}
