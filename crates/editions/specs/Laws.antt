-- What holds of the conversion, both ways: the laws of request 6.
use Rattle.std.specs.Prelude.{ℕ, ◌≤◌, ◌≡◌, ◌↔◌, List, [], map, length}
use Rattle.logic.specs.Limits.{most_words, most_nesting}
use Rattle.logic.specs.Refusals.{malformed, unbound}
use Rattle.logic.specs.Result.{ok, refused, ◌>>=◌}
use Rattle.logic.specs.Term.{Term}
use Rattle.logic.specs.Reading.{read_whole}
use Rattle.logic.specs.Scope.{Signature}
use Rattle.logic.specs.Check.{WordsOf, Checked, check_term}
use Rattle.editions.specs.Named.{Named, encode', counted}
use Rattle.editions.specs.Edition.{other, unnamed, Malformed', WordsOf', edition_term}
use Rattle.editions.specs.Convert.{convert, unname, name, Closed, from_named, to_named}
use Rattle.editions.specs.Binders.{BinderAt, FirstUnbound, NamedByCount, OnlyNames, Preserved}
use Rattle.editions.specs.Refuses.{AllBound}
use Rattle.editions.specs.declared.Edition.{Edition}
use Rattle.editions.specs.declared.Edition.TheVariants.{Counts, Names}

pub record Laws : Type 0 where
  -- "Either kind passes 6 to 8 first": exactly words of a term of the edition within the limits do; the place of
  -- malformed words
  pub reads : (e : Edition) (ws : List ℕ) (s : Named) → (edition_term e ws ≡ ok s) ↔ WordsOf' e ws s
  pub malformed_at : (e : Edition) (ws : List ℕ) (m p : ℕ) → (read_whole (map (unnamed e) ws) ≡ refused m p) ↔ ((m ≡ malformed) × Malformed' e ws p)
  -- a variable has one binder at most, and a term converts unless one has none: "The first unbound name or variable is
  -- 24 at its word"
  pub one_binder : {e : Edition} {i j k : ℕ} {s : Named} → BinderAt e i j s → BinderAt e i k s → j ≡ k
  pub all_bound : (e : Edition) (s : Named) → ((t : Named) × (convert e [] 0 s ≡ ok t)) ↔ AllBound e s
  pub first_unbound : (e : Edition) (s : Named) (m p : ℕ) → (convert e [] 0 s ≡ refused m p) ↔ ((m ≡ unbound) × FirstUnbound e s p)
  -- conversion keeps all but names and counts, either way
  pub kept : (e : Edition) (ws : List ℕ) (s t : Named) → WordsOf' e ws s → convert e [] 0 s ≡ ok t → Preserved e s t
  -- "a binder's name is the count of binders in whose body it stands, within its Sign if any"
  pub named_by_count : (t : Term) (s : Named) → name t ≡ ok s → NamedByCount s
  -- what is written is a term of the other edition within the limits
  pub well_formed : (e : Edition) (ws : List ℕ) (s t : Named) → WordsOf' e ws s → convert e [] 0 s ≡ ok t → WordsOf' (other e) (encode' t) t
  -- words of document 01 are read as its own reader reads them
  pub document_01 : (ws : List ℕ) (t : Term) → WordsOf' Counts ws (counted t) ↔ WordsOf most_words most_nesting ws t
  -- "Two that convert give the same words exactly when they differ only in names and each variable's binder stands at
  -- the same word"
  pub same_words : (ws vs xs ys : List ℕ) (room room' : ℕ) (s t : Named) → WordsOf' Names ws s → WordsOf' Names vs t →
      from_named ws room ≡ ok xs → from_named vs room' ≡ ok ys → (xs ≡ ys) ↔ OnlyNames s t
  -- "conversion there and back from document 01's words, for terms closed even within each Sign, gives the same term",
  -- on trees and on words; and no other term converts
  pub back : (t : Term) (s : Named) → name t ≡ ok s → unname s ≡ ok t
  pub closed : (t : Term) → ((s : Named) × (name t ≡ ok s)) ↔ Closed 0 t
  pub back_words : (ws xs : List ℕ) (room room' : ℕ) → to_named ws room ≡ ok xs → length ws ≤ room' → from_named xs room' ≡ ok ws
  -- what is proved of a term is proved of its named form: a term that passes the check converts, and what its named
  -- form converts to passes with the same type
  pub checked : (Σ : List Term) → Signature Σ → (ws : List ℕ) (c : Checked) (room : ℕ) → check_term Σ ws ≡ ok c → length ws ≤ room →
      (xs : List ℕ) × (to_named ws room ≡ ok xs) × ((from_named xs room >>= λ vs. check_term Σ vs) ≡ ok c)
