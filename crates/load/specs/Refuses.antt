-- When a load is written, and with which words, and when it is refused, said by relations and not by the generator and
-- the tests: what the first two demands say of it. Sentences in quotation marks are document 02's, slip 11.
use Rattle.std.specs.Prelude.{◌≡◌, ℕ, suc, ◌+◌, ◌*◌, ◌<◌, ◌≤◌, ◌≢◌, ◌⊎◌, List, [], ◌∷◌, ◌++◌, length, drop}
use Rattle.logic.specs.Refusals.{load_size, output_short}
use Rattle.logic.specs.Result.{ok, Answers}
use Rattle.logic.specs.Term.{Term, var, sign, Const, Text, Name, App, Ret, Bind, encode}
use Rattle.logic.specs.Worked.{r}
use Rattle.words.specs.Place.{after_write}
use Rattle.load.specs.Load.{load_call}

-- "state becomes state times 1664525 plus 1013904223, modulo 4294967296": t is the state behind s
pub record NextState (s t : ℕ) : Type 0 where
  pub times : ℕ
  pub sum : s * 1664525 + 1013904223 ≡ times * 4294967296 + t
  pub below : t < 4294967296

-- "as state modulo 16777216": x is drawn at the state s
pub record DrawnAt (s x : ℕ) : Type 0 where
  pub times : ℕ
  pub sum : s ≡ times * 16777216 + x
  pub below : x < 16777216

-- "replacing principal 0 by 1"
pub data PrincipalOf : (drawn principal : ℕ) → Type 0 where
  by_1 : PrincipalOf 0 1
  as_drawn : {x : ℕ} → x ≢ 0 → PrincipalOf x x

-- "the say App C2 sv"
abbrev pub said_of : (v : ℕ) → Term
said_of v = App (Const 2) (Text v)

-- "a proof in the shape of document 01's p": v in the place of 7, a in that of 3
abbrev pub like_p : (v a : ℕ) → Term
like_p v a = Bind r (Ret (Name 0) (App (App (App (var 0) (Text v)) (Name a)) (sign a (said_of v))))

-- the words of so many requests, from a state on: the state moves "before each draw", and each request has "v,
-- principal, u, the say App C2 sv and a proof"
pub data LoadOf : (state count : ℕ) → List ℕ → Type 0 where
  no_request : {s : ℕ} → LoadOf s 0 []
  one_more : {s s₁ s₂ s₃ v x a u n : ℕ} {ws : List ℕ} → NextState s s₁ → DrawnAt s₁ v → NextState s₁ s₂ → DrawnAt s₂ x → PrincipalOf x a →
      NextState s₂ s₃ → DrawnAt s₃ u → LoadOf s₃ n ws → LoadOf s (suc n) ((v ∷ a ∷ u ∷ (encode (said_of v) ++ encode (like_p v a))) ++ ws)

-- "A load of 1 to 256 requests"
abbrev pub InRange : ℕ → Type 0
InRange count = (1 ≤ count) × (count ≤ 256)

abbrev pub OutOfRange : ℕ → Type 0
OutOfRange count = (count < 1) ⊎ (256 < count)

-- "Load size out of range is 29, and an output too short for all is 25 after it"
pub data LoadRefused (count room : ℕ) : (number place : ℕ) → Type 0 where
  load_29 : OutOfRange count → LoadRefused count room load_size 0
  load_25 : InRange count → room < 33 * count → LoadRefused count room output_short 0

pub record Loads (seed count room : ℕ) (ws : List ℕ) : Type 0 where
  pub in_range : InRange count
  pub fits : 33 * count ≤ room
  pub load_of : LoadOf seed count ws

pub record LoadDemand : Type 0 where
  pub answers : (seed count room : ℕ) → Answers (load_call seed count room) (Loads seed count room) (LoadRefused count room)
  -- a refusal writes nothing
  pub unchanged : (seed count room : ℕ) {m p : ℕ} (old : List ℕ) → LoadRefused count room m p → after_write (load_call seed count room) old ≡ old
  -- 33 words are written for each request, and "output past the result is unchanged"
  pub past : (seed count room : ℕ) (ws old : List ℕ) → load_call seed count room ≡ ok ws →
      (length ws ≡ 33 * count) × (drop (33 * count) (after_write (load_call seed count room) old) ≡ drop (33 * count) old)
