-- Where a record's body stands in the register.
use Prim.Native.Nat.{ℕ, zero, suc, ◌+◌, ◌-◌, ◌*◌, ◌≤◌, ◌<◌}
use native.Mathlib.Omega.{arith}
use mathlib.Core.Path.{◌≡◌, refl, sym, ap, ap₂, ◌∙◌}
use mathlib.Core.Bool.{◌&&◌}
use mathlib.Core.List.{List, [], ◌∷◌}
use lib.Dec.{leb}
use lib.ListN.{length, take, drop, get_elem?, length-append, take-append-drop}
use lib.Seq.{take_at}
use borrow.Author.Tests.{leb-true}
use Rattle.logic.specs.Limits.{most_register}
use Rattle.logic.specs.Refusals.{past_last_record}
use Rattle.logic.specs.Result.{Result, ok, refused, ◌>>=◌, ◌>>◌, known}
use Rattle.logic.proofs.Basics.{clash}
use Rattle.logic.proofs.Results.{bound, tested, both_true}
use Rattle.register.specs.Records.{Record, Content, record_head, header, words_of, used_by, register_content}
use Rattle.register.specs.Calls.{read_call, body_of, kind_of}
use Rattle.register.proofs.Words.{words_append}
use Rattle.records.specs.Items.{RecordsAt}
use Rattle.read_call.specs.Read.{Reachable}
use Rattle.records.proofs.Items.{record_words, records_there}
use Rattle.records.proofs.Walks.{body_from, body_to}
use Rattle.read_call.proofs.ReadAnswers.{Reached, reached_bounds, read_there}
use Rattle.host.specs.Answers.{number_unit, code_of, start_of, ReadTo}

-- the records before k fill the words up to it
start_from : (reg : List ℕ) (rs : List Record) (at k : ℕ) → RecordsAt reg header rs → RecordsAt reg at (drop k rs) → at ≡ used_by (take k rs)
start_from reg rs at k f g =
    let w : length (words_of rs) ≡ length (words_of (take k rs)) + length (words_of (drop k rs)) =
    ap (λ (l : List Record). length (words_of l)) (sym (take-append-drop k rs)) ∙ ap length (words_append (take k rs) (drop k rs)) ∙
    length-append (words_of (take k rs)) (words_of (drop k rs)) in
    omega (arith, f.end, g.end, ap length (record_words rs), ap length (record_words (drop k rs)))

entry_within : (rs : List Record) (k : ℕ) {r : Record} → known past_last_record 0 (get_elem? rs k) ≡ ok r → k < length rs
entry_within [] zero e = absurd (clash (cc))
entry_within [] (suc k) e = absurd (clash (cc))
entry_within (x ∷ rs) zero e = omega arith
entry_within (x ∷ rs) (suc k) e = let h = entry_within rs k e in omega arith

-- where a body starts, by what is read of the record and of all records
abbrev start_by : ℕ → Result Record → Result Content → ℕ
start_by k x y = start_of (x >> (y >>= λ c. ok (used_by (take k c.records) + record_head)))

-- a part has its own length
part_words : (xs : List ℕ) (j : ℕ) → take (length (take j xs)) xs ≡ take j xs
part_words xs j = ap (λ (l : List ℕ). take (length (take j xs)) l) (sym (take-append-drop j xs)) ∙ take_at (take j xs) (drop j xs) (length (take j xs)) refl

-- a record that is read is among the register's
pub record Present (reg : List ℕ) (k : ℕ) : Type 0 where
  pub among : Reachable reg (k + 1)
  pub not_shorter : header ≤ length reg
  pub not_longer : length reg ≤ most_register

-- a refusal hands back nothing
pub not_read : {m p : ℕ} (reg : List ℕ) (k : ℕ) → read_call reg k ≡ refused m p → (code : ℕ) → code ≡ m * number_unit + p → ReadTo reg k 0 0 0 code
unfolding body_of kind_of
not_read reg k r code c = record {
  answer = c ∙ sym (ap code_of r);
  kind_is = sym (ap kind_of r);
  start_is = sym (ap (λ (x : Result Record). start_by k x (register_content reg)) r);
  words_are = sym (ap (λ (x : Result Record). length (body_of x)) r);
  body = sym (ap body_of r);
}

pub present : {r : Record} (reg : List ℕ) (k : ℕ) → read_call reg k ≡ ok r → Present reg k
present reg k e =
    tested (leb header (length reg) && leb (length reg) most_register) _ _ _ e λ range e₁. bound (register_content reg) _ e₁ λ c u e₂.
    let (low, high) = both_true (leb header (length reg)) (leb (length reg) most_register) range in
    record {
      among = record { found = c; reads = u; passed = omega (arith, entry_within c.records k e₂) };
      not_shorter = leb-true header (length reg) low;
      not_longer = leb-true (length reg) most_register high;
    }

module _ (reg : List ℕ) (k : ℕ) (P : Present reg k) (at : ℕ) (R : Reached reg at k) where
  pub start_fits : at + record_head ≤ length reg
  start_fits = let b = reached_bounds reg at k (k + 1) P.among R (omega arith) in omega (arith, b.fits, b.within)

  pub read_to : (kind : ℕ) (body : List ℕ) → kind ≡ kind_of (read_call reg k) → body ≡ body_of (read_call reg k) →
      ReadTo reg k kind (at + record_head) (length body) 0
  unfolding body_of
  read_to kind body e b =
      let A = P.among in
      let r = read_there reg at k P.not_shorter P.not_longer A R in
      let s : at ≡ used_by (take k A.found.records) =
      start_from reg A.found.records at k (records_there reg A.found A.reads) (R A.found A.reads) in
      let j : ℕ = body_to reg at - body_from at in
      let z : body ≡ take j (drop (body_from at) reg) = b ∙ ap body_of (sym r) in
      record {
        answer = ap code_of r;
        kind_is = e;
        start_is = ap (λ (i : ℕ). i + record_head) s ∙ ap₂ (start_by k) r (sym A.reads);
        words_are = ap length b;
        body = ap (λ (l : List ℕ). take (length l) (drop (body_from at) reg)) z ∙ part_words (drop (body_from at) reg) j ∙ sym z ∙ b;
      }
