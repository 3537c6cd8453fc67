-- The search for a variable's binder, and its type.
use Rattle.std.specs.Prelude.{ℕ, suc, ◌+◌, ◌≤◌, ◌<◌, ◌≡◌, Bool, List, length, drop, Option, Some, None}
use Rattle.std.proofs.Math.Option.{some}
use Rattle.std.proofs.Math.ListN.{get_elem?}
use Rattle.logic.specs.Limits.{payloads, most_words, most_nesting, most_type_words}
use Rattle.logic.specs.Term.{Term, size}
use Rattle.logic.specs.Move.{raise}
use Rattle.logic.specs.Reading.{PlainType}
use Rattle.words.specs.Place.{Is}
use Rattle.words.specs.Lookup.{part_of, PartWithin}
use Rattle.rules.specs.Scope.{scope_words, Binders}
use Rattle.rules.specs.Form.{front_words}

-- the words kept are those of binders
pub record Walkable (ws : List ℕ) (floor used : ℕ) : Type 0 where
  pub proof : List ℕ
  pub Γ : List Term
  pub binders : Binders proof (scope_words floor used ws) Γ
  pub below : floor ≤ used
  pub inside : used ≤ length ws

-- from the answer on, the words kept are those of the binders from variable n on
pub record BinderFound (proof ws : List ℕ) (floor used n : ℕ) (Γ : List Term) (r : ℕ) : Type 0 where
  pub least : floor ≤ r
  pub most : r ≤ used
  pub binders : Binders proof (scope_words floor r ws) (drop n Γ)

-- the words kept from the entry of variable n on; or there is no such binder
abbrev pub EntryFound : (proof ws : List ℕ) (floor used n : ℕ) → List Term → Option ℕ → Type 0
EntryFound proof ws floor used n Γ None = BinderFound proof ws floor used n Γ floor
EntryFound proof ws floor used n Γ (Some r) = (floor < r) × BinderFound proof ws floor used n Γ r

-- a variable's number and place, and the binders in scope
pub record InScope (proof ws : List ℕ) (floor used n at : ℕ) : Type 0 where
  pub Γ : List Term
  pub binders : Binders proof (scope_words floor used ws) Γ
  pub few : length Γ ≤ most_nesting
  pub number : n < payloads
  pub place : at < most_words
  pub below : floor ≤ used
  pub room : used + front_words ≤ length ws

-- a binder's type is a plain term where the variable stands
abbrev pub Raises : List Term → ℕ → Type 0
Raises Γ n = (A : Term) → get_elem? Γ n ≡ some A → size A ≤ most_type_words → PlainType (raise (suc n) A)

-- the words of a binder's type, in the proof or in the workspace, and room for them
pub record Raisable (proof ws : List ℕ) (in_held : Bool) (from words n at room : ℕ) : Type 0 where
  pub type : Term
  pub part : Is (part_of proof ws in_held from (from + words)) type
  pub inside : PartWithin proof ws in_held from (from + words)
  pub type_words : words ≡ size type
  pub small : words ≤ most_type_words
  pub fits : words ≤ room
  pub number : n < payloads
  pub place : at < most_words
  pub front : front_words ≤ length ws
