use Rattle.std.proofs.Common.{arith, ◌≡◌, ◌++◌, ◌∷◌, [], true, ap, sym, subst}
use Rattle.sock_io.specs.LinkHalves.{LinkerState}
use Rattle.sock_io.specs.MemoryLinker.{NotedLinksState}
use Rattle.prog_link.specs.AnyKindLinker.{InMemory, OverTcp, are_kind, kind_asked}
use Rattle.prog_link.proofs.LinksOfOneKind.{numbered, one_longer, alike_more, counted_more}
use Rattle.prog_link.proofs.prog_linker.ProgLinker.open_next.Goals as goal

pub open_ends-requires-clause-loops : goal.open_ends-requires-clause-loops
open_ends-requires-clause-loops g c =
    let s = c.self.inside in let i = c.self.invariant in let kind = kind_asked c.args.spec.now.mode in
    numbered InMemory kind s.notes.asked _ _ i.0 i.2 (subst (λ l. are_kind kind l ≡ true) (sym (ap (λ (x : LinkerState). x.asked) c.self.view_is)) c.requires.alike)

pub open_ends-requires-clause-streams : goal.open_ends-requires-clause-streams
open_ends-requires-clause-streams g c =
    let s = c.self.inside in let i = c.self.invariant in let kind = kind_asked c.args.spec.now.mode in
    numbered OverTcp kind s.notes.asked _ _ i.0 i.3 (subst (λ l. are_kind kind l ≡ true) (sym (ap (λ (x : LinkerState). x.asked) c.self.view_is)) c.requires.alike)

pub invariant_of-self-2 : goal.invariant_of-self-2
invariant_of-self-2 g c =
    let s = c.self.inside in let i = c.self.invariant in let spec = c.args.spec.now in let e = c.in_ok-ends.ensures in
    let more : c.ask.new.self.asked ≡ s.notes.asked ++ spec ∷ [] = ap (λ (n : NotedLinksState). n.asked) c.ask.ensures in
    let long = one_longer s.notes.asked c.ask.new.self.asked spec more in let n = i.0 in (
      omega (arith, long, n),
      alike_more s.notes.asked c.ask.new.self.asked spec more (subst (λ l. are_kind (kind_asked spec.mode) l ≡ true) (sym (ap (λ (x : LinkerState). x.asked) c.self.view_is)) c.requires.alike),
      counted_more s.notes.asked c.ask.new.self.asked spec more InMemory _ _ i.2 e.loops,
      counted_more s.notes.asked c.ask.new.self.asked spec more OverTcp _ _ i.3 e.streams,
      e.opens,
    )
