-- What the code answers, by the numbers of the papers.
use Rattle.std.specs.Prelude.{ℕ, Ok, Err, Some, None}
use Rattle.std.specs.Prelude.{Result as Answer, Option as Maybe}
use Rattle.logic.specs.Refusals.{workspace_short, register_length, register_broken, bad_signature, bad_number, term_length, malformed, nesting}
use Rattle.logic.specs.Refusals.{unbound_variable, unknown_constant, condition_fails, type_too_long, another_proposition, not_held, desk_says}
use Rattle.logic.specs.Refusals.{register_full, past_last_record, not_a_function, argument_mismatch, variable_escapes, out_of_form, held_outside}
use Rattle.logic.specs.Refusals.{day_before_latest, unbound, output_short, step_remains, no_mark, marks_full, load_size}
use Rattle.logic.specs.Result.{Result, ok, refused}
use Rattle.logic.specs.declared.refusal.Refusal.{Refusal}
use Rattle.logic.specs.declared.refusal.Reason.{Reason}
use Rattle.logic.specs.declared.refusal.Reason.TheVariants.{WorkspaceShort, RegisterLength, RegisterBroken, BadSignature, BadNumber, TermLength}
use Rattle.logic.specs.declared.refusal.Reason.TheVariants.{Malformed, Nesting, UnboundVariable, UnknownConstant, ConditionFails, TypeTooLong}
use Rattle.logic.specs.declared.refusal.Reason.TheVariants.{AnotherProposition, NotHeld, DeskSays, RegisterFull, PastLastRecord, NotAFunction}
use Rattle.logic.specs.declared.refusal.Reason.TheVariants.{ArgumentMismatch, VariableEscapes, OutOfForm, HeldOutside, DayBeforeLatest, Unbound}
use Rattle.logic.specs.declared.refusal.Reason.TheVariants.{OutputShort, StepRemains, NoMark, MarksFull, LoadSize}

abbrev pub reason_number : Reason → ℕ
reason_number WorkspaceShort = workspace_short
reason_number RegisterLength = register_length
reason_number RegisterBroken = register_broken
reason_number BadSignature = bad_signature
reason_number BadNumber = bad_number
reason_number TermLength = term_length
reason_number Malformed = malformed
reason_number Nesting = nesting
reason_number UnboundVariable = unbound_variable
reason_number UnknownConstant = unknown_constant
reason_number ConditionFails = condition_fails
reason_number TypeTooLong = type_too_long
reason_number AnotherProposition = another_proposition
reason_number NotHeld = not_held
reason_number DeskSays = desk_says
reason_number RegisterFull = register_full
reason_number PastLastRecord = past_last_record
reason_number NotAFunction = not_a_function
reason_number ArgumentMismatch = argument_mismatch
reason_number VariableEscapes = variable_escapes
reason_number OutOfForm = out_of_form
reason_number HeldOutside = held_outside
reason_number DayBeforeLatest = day_before_latest
reason_number Unbound = unbound
reason_number OutputShort = output_short
reason_number StepRemains = step_remains
reason_number NoMark = no_mark
reason_number MarksFull = marks_full
reason_number LoadSize = load_size

-- number, place and value of each case
abbrev pub answer : {X : Type 0} → Answer X Refusal → Result X
answer (Ok x) = ok x
answer (Err r) = refused (reason_number r.reason) r.place

-- a value that has to be there
abbrev pub found : {X : Type 0} → (number place : ℕ) → Maybe X → Result X
found m p None = refused m p
found m p (Some x) = ok x
