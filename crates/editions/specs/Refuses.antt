-- When a term is converted and when and where it is refused, said by relations and not by the tests: what the first
-- demand says of the two converters. A constructor is a test in its order: those before it passed, and this one fails.
use Rattle.std.specs.Prelude.{ℕ, ◌≤◌, ◌<◌, ◌≡◌, List, length, drop}
use Rattle.logic.specs.Limits.{most_words, most_nesting}
use Rattle.logic.specs.Refusals.{term_length, malformed, nesting, unbound, output_short}
use Rattle.logic.specs.Result.{ok, Answers}
use Rattle.logic.specs.Reading.{FirstTooDeep}
use Rattle.logic.specs.Refused.{BadLength, GoodLength}
use Rattle.words.specs.Place.{after_write}
use Rattle.editions.specs.Named.{Named, encode', erased}
use Rattle.editions.specs.Edition.{other, Plain', Malformed', WordsOf'}
use Rattle.editions.specs.Convert.{converted}
use Rattle.editions.specs.Binders.{VariableAt, BinderAt, FirstUnbound, Preserved, NamesGiven}
use Rattle.editions.specs.declared.Edition.{Edition}

-- 8: "place: first word at depth 33" (document 01), of the term with these words
pub record TooDeep' (e : Edition) (ws : List ℕ) (p : ℕ) : Type 0 where
  pub s : Named
  pub plain : Plain' e s
  pub words : ws ≡ encode' s
  pub first : FirstTooDeep most_nesting 0 (erased s) p

-- every variable has its binder
abbrev pub AllBound : Edition → Named → Type 0
AllBound e s = (r i : ℕ) → VariableAt r i s → (j : ℕ) × BinderAt e i j s

module _ (e : Edition) (ws : List ℕ) (room : ℕ) where
  pub data ConvertRefused : (number place : ℕ) → Type 0 where
    convert_6 : BadLength most_words ws → ConvertRefused term_length 0
    convert_7 : {p : ℕ} → GoodLength most_words ws → Malformed' e ws p → ConvertRefused malformed p
    convert_8 : {p : ℕ} → GoodLength most_words ws → TooDeep' e ws p → ConvertRefused nesting p
    convert_24 : {s : Named} {p : ℕ} → WordsOf' e ws s → FirstUnbound e s p → ConvertRefused unbound p
    convert_25 : {s : Named} → WordsOf' e ws s → AllBound e s → room < length ws → ConvertRefused output_short 0

  -- a term with the words ws is converted into one with the words xs: a term of the other edition with each variable's
  -- binder at the same word, and with the names that it is given
  pub record Converts (xs : List ℕ) : Type 0 where
    pub s : Named
    pub t : Named
    pub term : WordsOf' e ws s
    pub bound : AllBound e s
    pub result : WordsOf' (other e) xs t
    pub preserved : Preserved e s t
    pub names : NamesGiven e t
    pub fits : length ws ≤ room

-- the first demand of the two converters, each from its edition
pub record ConvertersDemand : Type 0 where
  pub answers : (e : Edition) (ws : List ℕ) (room : ℕ) → Answers (converted e ws room) (Converts e ws room) (ConvertRefused e ws room)
  -- a refusal writes nothing
  pub unchanged : (e : Edition) {ws : List ℕ} {room m p : ℕ} (old : List ℕ) → ConvertRefused e ws room m p →
      after_write (converted e ws room) old ≡ old
  -- as many words are written as the term has, and "output past the result is unchanged"
  pub past : (e : Edition) (ws xs old : List ℕ) → converted e ws (length old) ≡ ok xs →
      (length xs ≡ length ws) × (drop (length ws) (after_write (converted e ws (length old)) old) ≡ drop (length ws) old)
