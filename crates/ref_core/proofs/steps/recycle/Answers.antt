use Rattle.std.proofs.Common.{ℕ, ◌+◌, sym, ap, subst, ◌∙◌, arith}
use mathlib.Core.Logic.{dite}
use native.Mathlib.Decide.{ℕ_discrete}
use Rattle.sock_model.specs.SocketTableLayout.{ref_index}
use Rattle.sock_model.specs.SlotRows.{recycled}
use Rattle.ref_core.specs.KeepingSlotRule.{KeepsSlotRule, MayRecycle}
use Rattle.ref_core.proofs.SlotKeptRules.{recycles_won, recycles_not}
use Rattle.ref_core.proofs.steps.recycle.Goals as goal

pub returns-clause-won : goal.returns-clause-won
returns-clause-won c hit = let w = c.exchanged.ensures.won hit in (omega (arith, w.0, c.requires.nref), w.1)

pub returns-clause-lost : goal.returns-clause-lost
returns-clause-lost c miss = c.exchanged.ensures.lost miss

pub returns-clause-keeps : goal.returns-clause-keeps
returns-clause-keeps c i = let from = c.args.from.0 in dite (ℕ_discrete c.args.found from)
    (λ hit. subst (λ (n : ℕ). KeepsSlotRule (MayRecycle i from) (ref_index i) c.args.found n (recycled i from c.args.found)) (ap (λ (n : ℕ). n + 4294967296) hit ∙ sym (c.exchanged.ensures.won hit).0) (recycles_won i c.args.found c.ranges.found.fits from hit c.requires.odd c.requires.nref))
    (λ miss. subst (λ (n : ℕ). KeepsSlotRule (MayRecycle i from) (ref_index i) c.args.found n (recycled i from c.args.found)) (sym (c.exchanged.ensures.lost miss).0) (recycles_not i c.args.found c.ranges.found.fits from miss c.requires.nref))
