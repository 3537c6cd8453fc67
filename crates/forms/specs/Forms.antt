-- The form of a desk rule, of a statement that it takes up, and of a proof from the two, as document 01 writes its r,
-- its say and its p.
use Rattle.std.specs.Prelude.{ℕ}
use Rattle.logic.specs.Term.{Term, var, sign, S, N, Const, Text, Name, Says, Pi, App, Ret, Bind}
use Rattle.logic.specs.SignatureList.{permit}

-- "Pi S Pi N Pi Says V0 App C2 V1 App C0 V2", with Cq for C2 and the permit of operation i for C0
abbrev pub rule_form : (q i : ℕ) → Term
rule_form q i = Pi S (Pi N (Pi (Says (var 0) (App (Const q) (var 1))) (App (Const (permit i)) (var 2))))

-- "App C2 s7", with Cq and v
abbrev pub consent_form : (q v : ℕ) → Term
consent_form q v = App (Const q) (Text v)

-- "p = Bind r Ret a0 App App App V0 s7 a3 Sign3 App C2 s7", with a for 3
abbrev pub proof_form : (i q v a : ℕ) → Term
proof_form i q v a = Bind (sign 0 (rule_form q i)) (Ret (Name 0) (App (App (App (var 0) (Text v)) (Name a)) (sign a (consent_form q v))))

-- how many words the statement and the proof have
abbrev pub consent_form_words : ℕ
consent_form_words = 3

abbrev pub proof_form_words : ℕ
proof_form_words = 27
