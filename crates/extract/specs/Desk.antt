-- Lists of calls with extracts among them, each as its request; and with marks and returns.
use Rattle.std.specs.Prelude.{ℕ, ◌≡◌, ◌⊎◌, ◌≢◌, cond, length}
use mathlib.Core.List.{List, [], ◌∷◌, ◌++◌, Permᴰ}
use Rattle.logic.specs.Refusals.{out_of_form}
use Rattle.logic.specs.Result.{ok, refused, without_value}
use Rattle.register.specs.Records.{Record, Ask, Content, release, trial, register_content, written}
use Rattle.register.specs.Calls.{after_request, open_call, new_content}
use Rattle.register.specs.History.{Setting, lent, Call, Reply, request, requested, reply, after, Refused, run, read_off, OneDay, singles, Demand, Reordered}
use Rattle.register.specs.Marks.{mark_list, cleared}
use Rattle.register.specs.Trials.{TrialCall, Behaviour, Amounts, HoldsAfter, HoldsAlike, amounts_to, trial_end, calls_made}
use Rattle.homes.specs.Homes.{formed}
use Rattle.extract.specs.Extract.{extract_call}

-- a say, a request or a batch, or an extract with its list, its table and the words of its output
pub data DeskCall : Type 0 where
  plain : Call → DeskCall
  extract : (workspace : ℕ) → Ask → (homes surveys : List ℕ) (room : ℕ) → DeskCall

-- what a call answers; an extract as a request does, but for the words that it writes
abbrev pub desk_reply : Setting → List ℕ → DeskCall → Reply
desk_reply s reg (plain c) = reply s reg c
desk_reply s reg (extract w k hs t room) = requested (without_value (extract_call (lent s w) reg k hs t room))

-- the register that a call leaves
abbrev pub desk_after : Setting → List ℕ → DeskCall → List ℕ
desk_after s reg (plain c) = after s reg c
desk_after s reg (extract w k hs t room) = after_request (without_value (extract_call (lent s w) reg k hs t room)) reg k

-- each call gets the register as the one before left it
unfoldable pub desk_run : Setting → List ℕ → List DeskCall → List ℕ
desk_run s reg [] = reg
desk_run s reg (c ∷ cs) = desk_run s (desk_after s reg c) cs

unfoldable pub desk_answers : Setting → List ℕ → List DeskCall → List Reply
desk_answers s reg [] = []
desk_answers s reg (c ∷ cs) = desk_reply s reg c ∷ desk_answers s (desk_after s reg c) cs

-- ---- each extract taken as its request

-- an extract as its request, and as nothing where its form is broken
abbrev pub as_request : DeskCall → List Call
as_request (plain c) = c ∷ []
as_request (extract w k hs t room) = cond (formed hs t room) (request w k ∷ []) []

unfoldable pub as_requests : List DeskCall → List Call
as_requests [] = []
as_requests (c ∷ cs) = as_request c ++ as_requests cs

-- what a call answers then: 21 where the form is broken
abbrev pub reply_as_request : Setting → List ℕ → DeskCall → Reply
reply_as_request s reg (plain c) = reply s reg c
reply_as_request s reg (extract w k hs t room) = cond (formed hs t room) (reply s reg (request w k)) (requested (refused out_of_form 0))

unfoldable pub answers_as_requests : Setting → List ℕ → List DeskCall → List Reply
answers_as_requests s reg [] = []
answers_as_requests s reg (c ∷ cs) = reply_as_request s reg c ∷ answers_as_requests s (run s reg (as_request c)) cs

-- ---- the third demand

unfoldable pub NoDeskRefusal : Setting → List ℕ → List DeskCall → Type 0
NoDeskRefusal s reg [] = Unit {0}
NoDeskRefusal s reg (c ∷ cs) = (Refused (desk_reply s reg c) → ⊥) × NoDeskRefusal s (desk_after s reg c) cs

-- the third demand for one history with extracts: reg is the register just opened, c its content
pub record DeskDemand (s : Setting) (reg : List ℕ) (c : Content) (calls : List DeskCall) : Type 0 where
  -- each extract replaced by its request, and by nothing where it is 21, leaves the same register
  pub same_register : desk_run s reg calls ≡ run s reg (as_requests calls)
  -- and the same answers
  pub answered : desk_answers s reg calls ≡ answers_as_requests s reg calls
  -- so the third demand speaks of it
  pub demand : Demand s reg c (as_requests calls)
  pub recorded : register_content (desk_run s reg calls) ≡ ok (read_off s (length reg) c (as_requests calls))
  -- if neither of two orders of calls of one day has a refusal, they leave alike registers
  pub reordered : (day : ℕ) (calls' : List DeskCall) → OneDay day (as_requests calls) → Permᴰ calls calls' → NoDeskRefusal s reg calls →
      NoDeskRefusal s reg calls' → Reordered s reg c (as_requests calls) (as_requests calls')
  -- also with batches: the request of an extract may stand elsewhere in a batch, and a request of a batch as an extract
  pub reordered_singles : (day : ℕ) (calls' : List DeskCall) → OneDay day (singles s reg (as_requests calls)) →
      Permᴰ (singles s reg (as_requests calls)) (singles s reg (as_requests calls')) → NoDeskRefusal s reg calls →
      NoDeskRefusal s reg calls' → Reordered s reg c (as_requests calls) (as_requests calls')

-- for every opening that succeeded, of a register of either mode, and every list of calls after it
abbrev pub DeskDemand3 : Type 0
DeskDemand3 = (s : Setting) (w : ℕ) (given : List ℕ) (mode : ℕ) (rule_words : List ℕ) (rules : List Record) (calls : List DeskCall) →
    open_call (lent s w) given mode rule_words ≡ ok rules → DeskDemand s (written given (new_content mode rules)) (new_content mode rules) calls

-- ---- with marks: what such a list amounts to, and the third demand

abbrev pub desk_calls_in : Setting → Behaviour DeskCall
desk_calls_in s = record { reply = desk_reply s; after = desk_after s }

-- for one list: reg is the trial register just opened, c its content, and in `list` no mark stands
pub record DeskTrialDemand (s : Setting) (reg list : List ℕ) (c : Content) (xs : List (TrialCall DeskCall)) : Type 0 where
  pub amounts : Amounts (desk_calls_in s) (desk_run s reg) reg list xs
  -- the third demand with extracts holds, whole, of the calls that it amounts to, and the register at the end holds what
  -- these leave
  pub demand : DeskDemand s reg c (amounts_to xs)
  pub holds : HoldsAfter s reg c (as_requests (amounts_to xs)) (trial_end (desk_calls_in s) reg list xs).register
  -- two lists that amount to calls of one day in two orders, neither with a refusal, leave registers that hold the same
  pub reordered : (day : ℕ) (ys : List (TrialCall DeskCall)) → OneDay day (as_requests (amounts_to xs)) → Permᴰ (amounts_to xs) (amounts_to ys) →
      NoDeskRefusal s reg (amounts_to xs) → NoDeskRefusal s reg (amounts_to ys) →
      HoldsAlike (trial_end (desk_calls_in s) reg list xs).register (trial_end (desk_calls_in s) reg list ys).register
  pub reordered_singles : (day : ℕ) (ys : List (TrialCall DeskCall)) → OneDay day (singles s reg (as_requests (amounts_to xs))) →
      Permᴰ (singles s reg (as_requests (amounts_to xs))) (singles s reg (as_requests (amounts_to ys))) →
      NoDeskRefusal s reg (amounts_to xs) → NoDeskRefusal s reg (amounts_to ys) →
      HoldsAlike (trial_end (desk_calls_in s) reg list xs).register (trial_end (desk_calls_in s) reg list ys).register

-- for every opening of a trial register that succeeded, with a list that can hold marks, and every list of calls after
-- it
abbrev pub DeskTrialDemand3 : Type 0
DeskTrialDemand3 = (s : Setting) (w : ℕ) (given list rule_words : List ℕ) (rules : List Record) (xs : List (TrialCall DeskCall)) →
    open_call (lent s w) given trial rule_words ≡ ok rules → length list ≡ mark_list →
    let c = new_content trial rules in
    DeskTrialDemand s (written given c) (cleared list) c xs

-- where no mark can be set a list amounts to its calls
abbrev pub DeskNoMarkLaw : Type 0
DeskNoMarkLaw = (s : Setting) (w : ℕ) (given : List ℕ) (mode : ℕ) (list rule_words : List ℕ) (rules : List Record) (xs : List (TrialCall DeskCall)) →
    open_call (lent s w) given mode rule_words ≡ ok rules → (mode ≡ release) ⊎ (length list ≢ mark_list) →
    let reg = written given (new_content mode rules) in
    trial_end (desk_calls_in s) reg list xs ≡ record { register = desk_run s reg (calls_made xs); marks = list }
