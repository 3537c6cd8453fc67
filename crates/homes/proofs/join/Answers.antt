-- One loop over homes and rows together: a row that is passed over is not beyond the home, and a home that is written takes
-- its two words from the walk. What is left of the walk completes what is written.
use native.Mathlib.Omega.{arith}
use mathlib.Core.Path.{◌≡◌, sym, ◌∙◌}
use lib.ListN.{length-set}
use Rattle.homes.proofs.Joins.{beyond, here, formed_facts}
use Rattle.homes.proofs.Walks.{row_passed, row_stays, here_own, here_none, home_taken, homes_written}
use Rattle.homes.proofs.join.Goals as goal
use Rattle.homes.proofs.join.Goals.{in-len2-up-2, in_default-left, in_default-left-2}

pub loop-home-preserved-in-len2-up : goal.loop-home-preserved-in-len2-up
loop-home-preserved-in-len2-up c =
    let i = c.loop-home.invariant in
    let h = c.in-Some.ensures.lookup.3 in
    record { size = i.size; rest = row_passed c.args.homes.now _ _ _ _ h.0 (h.1 0) c.in-len2-up.len_at_least c.if-row-home.true ∙ i.rest }

pub bounds-out-k : goal.bounds-out-k
bounds-out-k c = let f = (formed_facts _ _ _ c.requires).fits in omega (arith, c.in-Some.ensures.lookup.3.0)

pub bounds-out-k-in-Some : goal.bounds-out-k-in-Some
bounds-out-k-in-Some c = let f = (formed_facts _ _ _ c.requires).fits in simp length-set (omega (arith, c.in-Some.ensures.lookup.3.0))

pub loop-home-preserved : goal.loop-home-preserved
loop-home-preserved c =
    let f = (formed_facts _ _ _ c.requires).fits in
    let i = c.loop-home.invariant in
    let h = c.in-Some.ensures.lookup.3 in
    let l = c.loop-home.left.now in
    let first : (beyond c.in-Some.field-0.now l ≡ l) × (here c.in-Some.field-0.now l ≡ c.if-left-lt2.code) =
    elim c.if-left-lt2.branch [
      | in-len2-up-2 w ↦ (row_stays _ _ (λ m. omega arith), here_own _ _ w.in-len2-up.len_at_least w.if-row-home-2.true ∙ sym w.code-is)
      | in_default-left w ↦ (row_stays _ _ (λ m. absurd (omega arith)), here_none _ _ (λ m e. omega arith) ∙ sym w.code-is)
      | in_default-left-2 w ↦ (row_stays _ _ (λ m. omega arith), here_none _ _ (λ m e. w.if-row-home-2.false e) ∙ sym w.code-is)
    ] in
    record {
      size = simp length-set i.size;
      rest = home_taken c.args.homes.now _ _ _ _ h.0 (h.1 0) _ (omega (arith, h.0)) first.0 first.1 ∙ i.rest;
    }

pub returns : goal.returns
returns c = homes_written _ _ _ _ _ c.loop-home.k c.in_default.ensures.lookup.3 c.requires c.loop-home.invariant.rest
