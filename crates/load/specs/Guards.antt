-- Document 02's slip 11, in quotation marks, by literals and by examples that compute, and a load of two on document
-- 01's worked register.
use Rattle.std.specs.Prelude.{◌≡◌, ℕ, ◌+◌, ◌*◌, ◌%◌, true, List, [], ◌∷◌, ◌++◌, length, take, drop}
use Rattle.logic.specs.Result.{ok, refused}
use Rattle.logic.specs.Term.{encode}
use Rattle.logic.specs.Worked.{consent, rule, p}
use Rattle.words.specs.Place.{after_write}
use Rattle.register.specs.Records.{header}
use Rattle.register.specs.History.{Reply, said, requested, answers}
use Rattle.register.specs.Worked.{setting, opened_sample}
use Rattle.forms.specs.Forms.{rule_form}
use Rattle.load.specs.Load.{next_state, request_words, load_words, load_call}
use Rattle.load.specs.Passes.{Extras, load_calls}

-- v, principal and u of the first request of a load, and of its second one
abbrev first_of : (seed : ℕ) → List ℕ
first_of seed = take 3 (load_words 1 seed)

abbrev second_of : (seed : ℕ) → List ℕ
second_of seed = take 3 (drop 33 (load_words 2 seed))

-- each say holds for the days 12 to 18
abbrev extras : ℕ → Extras
extras k = record { say_workspace = 12288; request_workspace = 12288; first = 12; last = 18 }

-- the answers of a load of two on day 15, on a register with rule r that has so many words
abbrev loaded : ℕ → List Reply
loaded len = answers setting (opened_sample len) (load_calls 15 extras 2 (load_words 2 1))

pub record LoadGuards : Type 0 where
  -- "state becomes state times 1664525 plus 1013904223, modulo 4294967296"; the modulus of a draw is not the state's
  pub next : (s : ℕ) → next_state s ≡ (s * 1664525 + 1013904223) % 4294967296
  pub next_of_1 : next_state 1 ≡ 1015568748
  pub next_of_last : next_state 4294967295 ≡ 1012239698
  -- v, principal and u in this order, "as state modulo 16777216"
  pub from_0 : first_of 0 ≡ 7271263 ∷ 5253426 ∷ 13432553 ∷ []
  pub then_from_0 : second_of 0 ≡ 16339764 ∷ 5432579 ∷ 3065478 ∷ []
  pub from_1 : first_of 1 ≡ 8935788 ∷ 8947163 ∷ 1442174 ∷ []
  pub then_from_1 : second_of 1 ≡ 7551685 ∷ 15756640 ∷ 10010943 ∷ []
  pub from_last : first_of 4294967295 ≡ 5606738 ∷ 1559689 ∷ 8645716 ∷ []
  -- "replacing principal 0 by 1", and neither v nor u
  pub principal_0 : first_of 4150723358 ≡ 14028773 ∷ 1 ∷ 7271263 ∷ []
  pub extract_0 : first_of 634785765 ≡ 0 ∷ 7271263 ∷ 5253426 ∷ []
  pub delivery_0 : first_of 1869465083 ≡ 6751006 ∷ 14028773 ∷ 0 ∷ []
  -- "v, principal, u, the say App C2 sv and a proof in the shape of document 01's p, 33 words"; its rule is document 01's
  pub words_are : request_words 7 3 9 ≡ 7 ∷ 3 ∷ 9 ∷ (encode consent ++ encode p)
  pub words_each : length (load_words 2 1) ≡ 66
  pub rule_is : rule_form 2 0 ≡ rule
  -- "Load size out of range is 29, and an output too short for all is 25 after it"
  pub count_0 : load_call 1 0 33 ≡ refused 29 0
  pub count_257 : load_call 1 257 0 ≡ refused 29 0
  pub too_short : load_call 1 2 65 ≡ refused 25 0
  pub fits : load_call 1 2 66 ≡ ok (load_words 2 1)
  pub most_too_short : load_call 1 256 8447 ≡ refused 25 0
  -- a refusal writes nothing
  pub not_written : after_write (load_call 1 1 2) (71 ∷ 72 ∷ []) ≡ 71 ∷ 72 ∷ []
  -- rule r takes 18 words behind the header, and each say with its request 49
  pub suffices : loaded (header + 116) ≡ said (ok true) ∷ requested (ok tt) ∷ said (ok true) ∷ requested (ok tt) ∷ []
  pub one_short : loaded (header + 115) ≡ said (ok true) ∷ requested (ok tt) ∷ said (ok true) ∷ requested (refused 16 0) ∷ []
