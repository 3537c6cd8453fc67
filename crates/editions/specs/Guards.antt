-- Document 02's slip 6, in quotation marks, by examples that compute. Words are written as document 01 writes them; a
-- comment without quotation marks says how a sentence is read.
use Rattle.std.specs.Prelude.{ℕ, zero, suc, ◌≡◌, List, [], ◌∷◌}
use Rattle.logic.specs.Result.{ok, refused}
use Rattle.logic.specs.Term.{atom, var, sign, node, propA, piO, lamO, appO, word}
use Rattle.words.specs.Place.{after_write}
use Rattle.editions.specs.Named.{Named, atom', var', sign', node'}
use Rattle.editions.specs.Edition.{edition_term}
use Rattle.editions.specs.Convert.{from_named, to_named, Closed}
use Rattle.editions.specs.Refuses.{ConvertRefused}
use Rattle.editions.specs.Binders.{BinderAt, FirstUnbound, NamedAt, NamedByCount, OnlyNames}
use Rattle.editions.specs.declared.Edition.TheVariants.{Counts, Names}

-- ---- words, by document 01's tags

abbrev P : ℕ
P = word 1 0

abbrev S : ℕ
S = word 3 0

abbrev N : ℕ
N = word 4 0

abbrev Var : ℕ → ℕ
Var n = word 5 n

abbrev Const : ℕ → ℕ
Const n = word 6 n

abbrev Says : ℕ
Says = word 7 0

abbrev Pi : ℕ → ℕ
Pi x = word 8 x

abbrev Lam : ℕ → ℕ
Lam x = word 9 x

abbrev App : ℕ
App = word 10 0

abbrev Sign : ℕ → ℕ
Sign n = word 13 n

abbrev Bind : ℕ → ℕ
Bind x = word 15 x

-- a variable y in the body of so many Lams, each with the name x
unfoldable pub lams : (x y : ℕ) → ℕ → List ℕ
lams x y zero = Var y ∷ []
lams x y (suc k) = Lam x ∷ S ∷ lams x y k

-- ---- trees, for the relations

-- Lam x P b
abbrev pub lam : ℕ → Named → Named
lam x b = node' lamO x (atom' propA) b

-- Pi 4 Lam 5 P P Lam 6 P Sign3 Lam 7 P Lam 8 P P: the binders stand at the words 0, 1, 4, 7 and 9
abbrev pub five_binders : Named
five_binders = node' piO 4 (lam 5 (atom' propA)) (lam 6 (sign' 3 (lam 7 (lam 8 (atom' propA)))))

-- ---- the examples

pub record NamedGuards : Type 0 where
  -- "Going back, a binder's name is the count of binders in whose body it stands": document 01's r without its Sign
  pub rule_named : to_named (Pi 0 ∷ S ∷ Pi 0 ∷ N ∷ Pi 0 ∷ Says ∷ Var 0 ∷ App ∷ Const 2 ∷ Var 1 ∷ App ∷ Const 0 ∷ Var 2 ∷ []) 13
      ≡ ok (Pi 0 ∷ S ∷ Pi 1 ∷ N ∷ Pi 2 ∷ Says ∷ Var 1 ∷ App ∷ Const 2 ∷ Var 0 ∷ App ∷ Const 0 ∷ Var 0 ∷ [])
  -- "A converter turns it into document 01's words"
  pub rule_back : from_named (Pi 0 ∷ S ∷ Pi 1 ∷ N ∷ Pi 2 ∷ Says ∷ Var 1 ∷ App ∷ Const 2 ∷ Var 0 ∷ App ∷ Const 0 ∷ Var 0 ∷ []) 13
      ≡ ok (Pi 0 ∷ S ∷ Pi 0 ∷ N ∷ Pi 0 ∷ Says ∷ Var 0 ∷ App ∷ Const 2 ∷ Var 1 ∷ App ∷ Const 0 ∷ Var 2 ∷ [])
  -- "a name means the nearest binder that carries it"
  pub nearest_of_two : from_named (Lam 5 ∷ P ∷ Lam 5 ∷ Var 5 ∷ Var 5 ∷ []) 5 ≡ ok (Lam 0 ∷ P ∷ Lam 0 ∷ Var 0 ∷ Var 0 ∷ [])
  pub nearer_of_another : from_named (Lam 5 ∷ P ∷ Lam 6 ∷ Var 5 ∷ Var 5 ∷ []) 5 ≡ ok (Lam 0 ∷ P ∷ Lam 0 ∷ Var 0 ∷ Var 1 ∷ [])
  -- "A Sign's proposition starts with no names"
  pub no_names_in_sign : from_named (Lam 1 ∷ S ∷ Sign 3 ∷ Var 1 ∷ []) 4 ≡ refused 24 3
  pub names_behind_sign : from_named (Lam 1 ∷ S ∷ App ∷ Sign 3 ∷ P ∷ Var 1 ∷ []) 6 ≡ ok (Lam 0 ∷ S ∷ App ∷ Sign 3 ∷ P ∷ Var 0 ∷ [])
  pub no_counts_in_sign : to_named (Lam 0 ∷ S ∷ Sign 3 ∷ Var 0 ∷ []) 4 ≡ refused 24 3
  -- "within its Sign if any"
  pub anew_in_sign : to_named (Pi 0 ∷ S ∷ Sign 3 ∷ Pi 0 ∷ S ∷ Pi 0 ∷ S ∷ Var 1 ∷ []) 8 ≡ ok (Pi 0 ∷ S ∷ Sign 3 ∷ Pi 0 ∷ S ∷ Pi 1 ∷ S ∷ Var 0 ∷ [])
  -- A domain, and the proof of a Bind, are not in the body
  pub domain_outside : from_named (Pi 1 ∷ Var 1 ∷ P ∷ []) 3 ≡ refused 24 1
  pub lam_domain_outside : from_named (Lam 1 ∷ Var 1 ∷ P ∷ []) 3 ≡ refused 24 1
  pub proof_outside : from_named (Bind 1 ∷ Var 1 ∷ Var 1 ∷ []) 3 ≡ refused 24 1
  pub count_outside : to_named (Bind 0 ∷ Var 0 ∷ Var 0 ∷ []) 3 ≡ refused 24 1
  pub named_in_domain : to_named (Pi 0 ∷ Pi 0 ∷ S ∷ P ∷ Pi 0 ∷ S ∷ P ∷ []) 7 ≡ ok (Pi 0 ∷ Pi 0 ∷ S ∷ P ∷ Pi 1 ∷ S ∷ P ∷ [])
  -- "The first unbound name or variable is 24 at its word"
  pub first_unbound : from_named (App ∷ Var 1 ∷ Var 2 ∷ []) 3 ≡ refused 24 1
  pub count_unbound : to_named (Lam 0 ∷ S ∷ Var 1 ∷ []) 3 ≡ refused 24 2
  -- "an output shorter than the term is 25 after it", at place 0; an output of exactly the term's length suffices
  pub unbound_first : from_named (Lam 1 ∷ S ∷ Var 2 ∷ []) 0 ≡ refused 24 2
  pub one_short : from_named (Lam 1 ∷ S ∷ Var 1 ∷ []) 2 ≡ refused 25 0
  pub exact : from_named (Lam 1 ∷ S ∷ Var 1 ∷ []) 3 ≡ ok (Lam 0 ∷ S ∷ Var 0 ∷ [])
  pub back_one_short : to_named (Lam 0 ∷ S ∷ Var 0 ∷ []) 2 ≡ refused 25 0
  -- For the named edition 7 admits any payload on Pi, Lam and Bind
  pub any_name : from_named (Pi 16777215 ∷ S ∷ Lam 16777215 ∷ P ∷ Bind 16777215 ∷ Var 16777215 ∷ Var 16777215 ∷ []) 7
      ≡ ok (Pi 0 ∷ S ∷ Lam 0 ∷ P ∷ Bind 0 ∷ Var 0 ∷ Var 0 ∷ [])
  pub no_name_on_says : from_named (Pi 1 ∷ S ∷ word 7 16777215 ∷ Var 1 ∷ P ∷ []) 5 ≡ refused 7 2
  pub no_payload_on_pi : edition_term Counts (Says ∷ P ∷ Pi 1 ∷ S ∷ P ∷ []) ≡ refused 7 2
  pub no_name_on_pi : to_named (Says ∷ P ∷ Pi 1 ∷ S ∷ P ∷ []) 5 ≡ refused 7 2
  -- "Either kind passes 6 to 8 first"
  pub empty : from_named [] 0 ≡ refused 6 0
  pub back_empty : to_named [] 0 ≡ refused 6 0
  pub missing_first : from_named (App ∷ Var 1 ∷ []) 0 ≡ refused 7 2
  pub nested_32 : from_named (lams 7 7 31) 63 ≡ ok (lams 0 0 31)
  pub nested_33 : from_named (lams 7 8 32) 0 ≡ refused 8 63
  pub back_nested_33 : to_named (lams 0 32 32) 0 ≡ refused 8 63
  -- "output past the result is unchanged", and a refusal writes nothing
  pub past : after_write (from_named (Lam 1 ∷ S ∷ Var 1 ∷ []) 5) (71 ∷ 72 ∷ 73 ∷ 74 ∷ 75 ∷ []) ≡ Lam 0 ∷ S ∷ Var 0 ∷ 74 ∷ 75 ∷ []
  pub back_past : after_write (to_named (Lam 0 ∷ S ∷ Var 0 ∷ []) 4) (71 ∷ 72 ∷ 73 ∷ 74 ∷ []) ≡ Lam 0 ∷ S ∷ Var 0 ∷ 74 ∷ []
  pub not_written : after_write (from_named (Lam 1 ∷ S ∷ Var 2 ∷ []) 3) (71 ∷ 72 ∷ 73 ∷ []) ≡ 71 ∷ 72 ∷ 73 ∷ []
  pub back_not_written : after_write (to_named (Lam 0 ∷ S ∷ Var 0 ∷ []) 2) (71 ∷ 72 ∷ []) ≡ 71 ∷ 72 ∷ []
  -- "each variable's binder stands at the same word": in Lam 5 P Lam 5 V5 V5 the binder of word 4 is word 2 and that of
  -- word 3, a domain, is word 0; in Lam P Lam V0 V1 the binder of word 4 is word 0; in Pi 1 V1 V1 word 1 has none
  pub binder_of_body : BinderAt Names 4 2 (lam 5 (node' lamO 5 (var' 5) (var' 5)))
  pub binder_of_domain : BinderAt Names 3 0 (lam 5 (node' lamO 5 (var' 5) (var' 5)))
  pub binder_counted : BinderAt Counts 4 0 (lam 0 (node' lamO 0 (var' 0) (var' 1)))
  pub no_binder : (j : ℕ) → BinderAt Names 1 j (node' piO 1 (var' 1) (var' 1)) → ⊥
  -- in Lam 5 P Lam 5 P V5 word 0 is not the binder of word 4: a nearer one carries the name
  pub hidden : BinderAt Names 4 0 (lam 5 (lam 5 (var' 5))) → ⊥
  -- "The first unbound name or variable", of two, by the relation; and 25 is "after it"
  pub first_of_two : FirstUnbound Names (node' appO tt (var' 1) (var' 2)) 1
  pub not_short_yet : ConvertRefused Names (Lam 1 ∷ S ∷ Var 2 ∷ []) 0 25 0 → ⊥
  -- "closed even within each Sign": Lam P Sign3 Lam P V0 is, and Lam P Sign3 V0 is not
  pub closed_in_sign : Closed 0 (node lamO (atom propA) (sign 3 (node lamO (atom propA) (var 0))))
  pub open_in_sign : Closed 0 (node lamO (atom propA) (sign 3 (var 0))) → ⊥
  -- "the count of binders in whose body it stands, within its Sign if any": 1 for the binder of the body, 0 for that of
  -- the domain and for the outer one in the Sign, 1 for the inner one there
  pub counted_in_body : NamedAt 6 1 0 4 five_binders
  pub counted_in_domain : NamedAt 5 0 0 1 five_binders
  pub counted_in_sign : NamedAt 7 0 0 7 five_binders
  pub counted_further_in : NamedAt 8 1 0 9 five_binders
  pub by_count : NamedByCount (lam 0 (lam 1 (var' 0)))
  pub not_by_count : NamedByCount (lam 0 (lam 2 (var' 0))) → ⊥
  -- "exactly when they differ only in names and each variable's binder stands at the same word"
  pub other_names : OnlyNames (lam 3 (lam 4 (var' 3))) (lam 4 (lam 3 (var' 4)))
  pub other_binder : OnlyNames (lam 3 (lam 4 (var' 3))) (lam 3 (lam 4 (var' 4))) → ⊥
