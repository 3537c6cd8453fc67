-- Document 01's section on typing with document 02's changes, a sentence at a time: what each rule types and where it
-- breaks, by literals, with the sample signature; and which Signs of a term count. proofs/Sentences computes them, so
-- that they rest on no other proof.
use Rattle.std.specs.Prelude.{ℕ, zero, suc, ◌≡◌, cond, [], ◌∷◌, ◌++◌, eqb}
use Rattle.std.proofs.Math.Option.{Option, some, none}
use Rattle.logic.specs.Result.{ok, refused}
use Rattle.logic.specs.Term.{Term, var, sign, P, T', S, N, KindP, KindT, Const, Text, Name, Says, Pi, Lam, App, Ret, Bind, size, encode}
use Rattle.logic.specs.Reading.{Miss, first_miss}
use Rattle.logic.specs.SignatureList.{signature}
use Rattle.logic.specs.Worked.{sample, listed, consent}
use Rattle.logic.specs.Order.{answer_to}

infixl 5 ◌has_type◌
-- the words of t have the type A
abbrev pub ◌has_type◌ : Term → Term → Type 0
t has_type A = answer_to sample (encode t) ≡ ok A

infixl 5 ◌refused_with◌
-- the words of t are refused with the number m at word 0
abbrev pub ◌refused_with◌ : Term → ℕ → Type 0
t refused_with m = answer_to sample (encode t) ≡ refused m 0

-- a condition of the node at word 0 breaks, and has no number of its own
abbrev pub Breaks : Term → Type 0
Breaks t = t refused_with 11

-- a function whose type has its argument's variable under a binder
abbrev pub told_to_all : Term
told_to_all = Pi S (Pi N (Says (var 0) (App (Const 2) (var 1))))

-- a proof of a proposition in which variable 0, a proof of the consent, stands
abbrev pub of_consent : Term
of_consent = Lam (App (Const 3) (var 0)) (var 0)

-- t, a proof of the consent, in 6 words more for each step
unfoldable pub longer_proof : ℕ → Term → Term
longer_proof zero t = t
longer_proof (suc k) t = App (Lam consent (var 0)) (longer_proof k t)

-- k + 1 times that variable i, a proof of the consent, has the property C3
unfoldable pub properties : (k i : ℕ) → Term
properties zero i = App (Const 3) (var i)
properties (suc k) i = Pi (App (Const 3) (var i)) (properties k (suc i))

-- a proposition of 153 words in which the node at word 63 has a type of over 256: a long proof is filled in six times
abbrev pub long_within : Term
long_within =
    Pi consent (Pi (Pi consent (properties 5 0)) (Pi (Pi consent (Pi (properties 5 0) P))
    (App (App (var 0) (longer_proof 7 (var 2))) (App (var 1) (longer_proof 7 (var 2))))))

-- the first Sign of principal 3, where these are refused with 14 and no others are
abbrev pub first_by_3 : Term → Option Miss
first_by_3 t = first_miss (λ n q. cond (eqb n 3) (some 14) none) 0 t

abbrev pub refused_sign : (place : ℕ) → Option Miss
refused_sign place = some (record { number = 14; place = place })

pub record Sentences : Type 0 where
  -- "P : KindP. T : KindT. S : T. N : T. sn : S. an : N."
  pub prop : P has_type KindP
  pub type : T' has_type KindT
  pub string : S has_type T'
  pub prin : N has_type T'
  pub text : Text 7 has_type S
  pub name : Name 3 has_type N
  -- "Vn has its binder's type, shifted up n + 1. Cn has its declared type."
  pub variable : Lam P (Lam (var 0) (Lam (var 1) (var 1))) has_type Pi P (Pi (var 0) (Pi (var 1) (var 2)))
  pub constant : Const 3 has_type Pi consent P
  -- "Says a Q : P if a : N and Q : P."
  pub says : Says (Name 3) consent has_type P
  pub says_by_string : Breaks (Says (Text 7) consent)
  pub says_string : Breaks (Says (Name 3) (Text 7))
  pub says_kind : Breaks (Says (Name 3) P)
  -- "Pi d b has the type of b, if that is P or KindP, and d has type T or P", or KindP: "Pi and Lam now admit any
  -- domain whose type is KindP" (document 02, slip 1), the word P among them
  pub pi_prop : Pi S consent has_type P
  pub pi_kind : Pi S P has_type KindP
  pub pi_over_proofs : Pi consent consent has_type P
  pub pi_over_props : Pi P (var 0) has_type P
  pub pi_over_properties : Pi (Pi S P) (App (var 0) (Text 7)) has_type P
  pub pi_over_properties_kind : Pi (Pi S P) P has_type KindP
  pub pi_over_types : Breaks (Pi T' consent)
  pub pi_over_string : Breaks (Pi (Text 7) consent)
  pub pi_of_type : Breaks (Pi S S)
  -- "Lam d b : Pi d B if d obeys the same condition, b : B and B : P."
  pub lam : Lam consent (var 0) has_type Pi consent consent
  pub lam_over_properties : Lam (Pi S P) (sign 3 consent) has_type Pi (Pi S P) (Says (Name 3) consent)
  pub lam_over_types : Breaks (Lam T' (sign 3 consent))
  pub lam_of_prop : Breaks (Lam S consent)
  pub lam_of_property : Breaks (Lam (Pi S P) (var 0))
  -- "App f e is typed if f : Pi d B and e : d; its type is B filled with e", the filler raised under each binder
  pub app : App (Const 1) (Text 7) has_type Pi S P
  pub app_raised : Lam S (Lam told_to_all (App (var 0) (var 1))) has_type Pi S (Pi told_to_all (Pi N (Says (var 0) (App (Const 2) (var 2)))))
  -- "18 for the function, 19 for the argument (App C0 a3)" (document 02, slip 2)
  pub app_of_string : App (Text 7) (Text 7) refused_with 18
  pub app_of_said : App (sign 3 consent) (Text 7) refused_with 18
  pub app_of_sort : App P P refused_with 18
  pub app_to_principal : App (Const 2) (Name 3) refused_with 19
  pub app_to_prop : App (Const 2) P refused_with 19
  -- "Signn Q : Says an Q if Q : P with no variables in scope."
  pub signed : sign 3 consent has_type Says (Name 3) consent
  pub sign_string : Breaks (sign 3 (Text 7))
  pub sign_open : answer_to sample (encode (Lam S (sign 3 (App (Const 2) (var 0))))) ≡ refused 9 5
  -- "Ret a e : Says a Q if a : N, e : Q and Q : P."
  pub ret : Lam consent (Ret (Name 3) (var 0)) has_type Pi consent (Says (Name 3) consent)
  pub ret_by_string : Breaks (Ret (Text 7) (sign 3 consent))
  pub ret_string : Breaks (Ret (Name 0) (Text 7))
  -- "Bind e b: e : Says a Q; under a binder of type Q, b : Says a R, with a shifted and variable 0 not in
  -- R; the result is Says a R shifted down 1."
  pub bind : Lam N (Lam (Says (var 0) consent) (Bind (var 0) (Ret (var 2) (var 0)))) has_type Pi N (Pi (Says (var 0) consent) (Says (var 1) consent))
  pub bind_lowered : Lam P (Lam (var 0) (Bind (sign 3 consent) (Ret (Name 3) (var 1)))) has_type Pi P (Pi (var 0) (Says (Name 3) (var 1)))
  pub bind_of_string : Breaks (Bind (Text 7) (Ret (Name 3) (var 0)))
  pub bind_to_string : Breaks (Bind (sign 3 consent) (Text 7))
  pub bind_to_function : Breaks (Bind (sign 3 consent) (Const 3))
  pub bind_to_sort : Breaks (Bind (sign 3 consent) P)
  pub bind_by_other : Breaks (Bind (sign 3 consent) (Ret (Name 4) (var 0)))
  -- "20 for the escape"; "a Bind whose body another principal says stays 11, even if its
  -- variable escapes too" (document 02, slip 2)
  pub bind_escape : Bind (sign 3 consent) (Ret (Name 3) of_consent) refused_with 20
  pub bind_escape_by_other : Breaks (Bind (sign 3 consent) (Ret (Name 4) of_consent))
  -- "each node's own type has at most 256 words": of every node, also within what is signed or said, and in a signature
  pub long_words : size long_within ≡ 153
  pub long_node : answer_to sample (encode long_within) ≡ refused 12 63
  pub long_node_signed : answer_to sample (encode (sign 3 long_within)) ≡ refused 12 64
  pub long_node_said : answer_to sample (encode (Says (Name 3) long_within)) ≡ refused 12 65
  pub long_node_constant : signature (listed (sample ++ (Pi long_within P ∷ []))) ≡ refused 4 20
  -- "a type that passes the check with type KindP under the constants before it": not itself, and not one behind it
  pub constant_before : signature (listed (sample ++ (Pi consent P ∷ []))) ≡ ok (sample ++ (Pi consent P ∷ []))
  pub constant_itself : signature (listed (sample ++ (Pi (Const 4) P ∷ []))) ≡ refused 4 20
  pub constant_behind : signature (listed (sample ++ (Pi (App (Const 5) (Text 7)) P ∷ Pi S P ∷ []))) ≡ refused 4 20
  -- of the Signs, "one nested in a proposition or a domain counts too", and 14's place is the "first such Sign"
  pub missed_in_domain : first_by_3 (Pi (App (var 0) (sign 3 consent)) P) ≡ refused_sign 3
  pub missed_in_proposition : first_by_3 (sign 4 (App (var 0) (sign 3 consent))) ≡ refused_sign 3
  pub missed_in_principal : first_by_3 (Says (App (var 0) (sign 3 consent)) P) ≡ refused_sign 3
  pub missed_first : first_by_3 (App (sign 4 consent) (App (sign 3 consent) (sign 3 P))) ≡ refused_sign 6
  pub none_missed : first_by_3 (App (sign 4 consent) (sign 5 consent)) ≡ none
