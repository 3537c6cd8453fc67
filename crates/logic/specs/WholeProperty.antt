-- Document 02, slip 1, trust in a whole property: Pi and Lam "admit any domain whose type is KindP". Its examples with
-- document 01's sample signature; proofs/WholeProperty proves them together.
use Rattle.std.specs.Prelude.{◌≡◌, [], ◌∷◌}
use Rattle.logic.specs.Result.{ok, refused}
use Rattle.logic.specs.Term.{Term, var, sign, P, T', S, Const, Text, Name, Says, Pi, Lam, App, Ret, Bind, encode}
use Rattle.logic.specs.SignatureList.{signature}
use Rattle.logic.specs.Worked.{consent, checked_words, Types}

-- "for every property Q of homes, what this surveyor says of Q holds": a4 says this of a5
abbrev pub trust : Term
trust = Pi (Pi S P) (Pi S (Pi (Says (Name 5) (App (var 1) (var 0))) (App (var 2) (var 1))))

-- a4 says what a5 says of the home s7, by that trust
abbrev pub trusting : Term
trusting = Bind (sign 4 trust) (Ret (Name 4) (App (App (App (var 0) (Const 2)) (Text 7)) (sign 5 consent)))

pub record WholeProperty : Type 0 where
  -- "Pi Pi S P App V0 s7 gave 11 at place 0 and now has type P"
  pub of_home : Types (Pi (Pi S P) (App (var 0) (Text 7))) P
  pub identity : Types (Lam (Pi S P) (Lam (App (var 0) (Text 7)) (var 0))) (Pi (Pi S P) (Pi (App (var 0) (Text 7)) (App (var 1) (Text 7))))
  pub of_property : Types (Pi (Pi (Pi S P) P) (App (var 0) (Const 2))) P
  pub trusted : Types trusting (Says (Name 4) consent)
  -- a domain whose type is KindT is refused as before
  pub type_domain : checked_words (Pi T' consent) ≡ refused 11 0
  -- the same in a signature's types
  pub constant : signature (5 ∷ encode (Pi (Pi S P) P)) ≡ ok (Pi (Pi S P) P ∷ [])
  pub type_constant : signature (3 ∷ encode (Pi T' P)) ≡ refused 4 0
