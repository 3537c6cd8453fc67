-- The calls that a host makes of a load's words, and where all of them succeed. Sentences in quotation marks are
-- document 02's, slip 11.
use Rattle.std.specs.Prelude.{◌≡◌, ℕ, zero, suc, ◌+◌, ◌*◌, ◌<◌, ◌≤◌, List, [], ◌∷◌, length, take, drop, slice_index}
use Rattle.std.proofs.Math.Option.{some}
use Rattle.logic.specs.Limits.{least_workspace, most_register}
use Rattle.logic.specs.Result.{ok}
use Rattle.logic.specs.Term.{encode}
use Rattle.logic.specs.SignatureList.{signature}
use Rattle.logic.specs.Worked.{sample, rule}
use Rattle.register.specs.Records.{statement_of, ask_of, Content, Unbroken, Held, used, statement_extra, entry_extra}
use Rattle.register.specs.History.{Setting, Call, say, request, NoRefusal, grants}
use Rattle.forms.specs.Forms.{consent_form_words, proof_form_words}
use Rattle.load.specs.Refuses.{LoadOf}

-- what a say and its request bring beside the words: their workspaces, and the days of the say
pub record Extras : Type 0 where
  pub say_workspace : ℕ
  pub request_workspace : ℕ
  pub first : ℕ
  pub last : ℕ

-- "no workspace short", and "each say" covers the day
pub record Suited (day : ℕ) (e : Extras) : Type 0 where
  pub say_long : least_workspace ≤ e.say_workspace
  pub request_long : least_workspace ≤ e.request_workspace
  pub from : e.first ≤ day
  pub to : day ≤ e.last

-- the say and "every request of operation 0 after its say", read off the words: of each 33, those at 0, 1 and 2 are v,
-- principal and u, the next 3 are what is said, and the last 27 the proof. The n-th two calls bring the n-th extras.
unfoldable pub load_calls : (day : ℕ) → (ℕ → Extras) → (count : ℕ) → List ℕ → List Call
load_calls day extras zero ws = []
load_calls day extras (suc n) ws =
    say (extras 0).say_workspace day (statement_of (slice_index ws 1) (extras 0).first (extras 0).last (take 3 (drop 3 ws)))
    ∷ request (extras 0).request_workspace (ask_of 0 (slice_index ws 0) (slice_index ws 2) day (take 27 (drop 6 ws)))
    ∷ load_calls day (λ k. extras (suc k)) n (drop 33 ws)

-- the words that a say adds at most, and those that a request adds
abbrev pub say_adds : ℕ
say_adds = consent_form_words + statement_extra

abbrev pub request_adds : ℕ
request_adds = proof_form_words + entry_extra

-- "On an unbroken register with rule r .. and sufficient length, on one day that r .. cover and that isn't before the
-- latest"
pub record Loadable (reg : List ℕ) (day count : ℕ) : Type 0 where
  pub content : Content
  pub unbroken : Unbroken reg content
  pub not_longer : length reg ≤ most_register
  pub rule_held : Held (some day) content.records 0 (encode rule)
  pub not_before : content.latest ≤ day
  pub room : used reg + (say_adds + request_adds) * count ≤ length reg

-- "every say succeeds and every request .. is granted"
pub record LoadPasses (s : Setting) (reg : List ℕ) (count : ℕ) (calls : List Call) : Type 0 where
  pub no_refusal : NoRefusal s reg calls
  pub granted : length (grants s reg calls) ≡ count

-- for the words of a load, from every seed and of every count
abbrev pub AllPass : Type 0
AllPass = (s : Setting) (reg : List ℕ) (day seed count : ℕ) (ws : List ℕ) (extras : ℕ → Extras) → signature s.sig ≡ ok sample → s.n ≡ 1 →
    LoadOf seed count ws → Loadable reg day count → ((k : ℕ) → k < count → Suited day (extras k)) →
    LoadPasses s reg count (load_calls day extras count ws)
