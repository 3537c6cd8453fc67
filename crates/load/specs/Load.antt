-- "A load that all can repeat": the generator, and the words of a load. Sentences in quotation marks are document 02's,
-- slip 11.
use Rattle.std.specs.Prelude.{ℕ, zero, suc, ◌+◌, ◌*◌, ◌%◌, cond, ◌&&◌, List, [], ◌∷◌, ◌++◌, ◌==◌, nat_le}
use Rattle.logic.specs.Limits.{payloads}
use Rattle.logic.specs.Refusals.{load_size, output_short}
use Rattle.logic.specs.Result.{Result, ok, ◌>>◌, require}
use Rattle.logic.specs.Term.{encode}
use Rattle.forms.specs.Forms.{consent_form, proof_form, consent_form_words, proof_form_words}

-- "A load of 1 to 256 requests"
abbrev pub most_requests : ℕ
most_requests = 256

-- ---- the generator

-- "modulo 4294967296"
abbrev pub modulus : ℕ
modulus = 4294967296

abbrev pub multiplier : ℕ
multiplier = 1664525

abbrev pub increment : ℕ
increment = 1013904223

-- "state becomes state times 1664525 plus 1013904223, modulo 4294967296"
abbrev pub next_state : ℕ → ℕ
next_state s = (s * multiplier + increment) % modulus

-- what is drawn at a state, "as state modulo 16777216"; the state itself keeps its 32 bits
abbrev pub drawn_at : ℕ → ℕ
drawn_at s = s % payloads

-- "replacing principal 0 by 1"
abbrev pub principal_from : ℕ → ℕ
principal_from x = cond (x == 0) 1 x

-- ---- the words

-- the constant of rule r, of "the say App C2 sv" and of the proof
abbrev pub load_constant : ℕ
load_constant = 2

-- "every request of operation 0"
abbrev pub load_operation : ℕ
load_operation = 0

-- the numbers before the say: v, principal and u
abbrev pub load_numbers : ℕ
load_numbers = 3

-- "it writes v, principal, u, the say App C2 sv and a proof in the shape of document 01's p"
abbrev pub request_words : (v principal u : ℕ) → List ℕ
request_words v a u =
    v ∷ a ∷ u ∷ (encode (consent_form load_constant v) ++ encode (proof_form load_operation load_constant v a))

-- "33 words"
abbrev pub request_length : ℕ
request_length = load_numbers + consent_form_words + proof_form_words

-- the words of so many requests, from a state on: "draws v, principal and u for each", in this order, the state moving
-- "before each draw"
unfoldable pub load_words : (count state : ℕ) → List ℕ
load_words zero s = []
load_words (suc n) s =
    let s₁ = next_state s in
    let s₂ = next_state s₁ in
    let s₃ = next_state s₂ in
    request_words (drawn_at s₁) (principal_from (drawn_at s₂)) (drawn_at s₃) ++ load_words n s₃

-- a load from a seed, for an output of so many words: "Load size out of range is 29, and an output too short for all is
-- 25 after it"
unfoldable pub load_call : (seed count room : ℕ) → Result (List ℕ)
load_call seed count room = do
  require (nat_le 1 count && nat_le count most_requests) load_size 0
  require (nat_le (request_length * count) room) output_short 0
  ok (load_words count seed)
