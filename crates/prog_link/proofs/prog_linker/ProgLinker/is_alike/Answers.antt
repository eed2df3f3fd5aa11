use Rattle.std.proofs.Common.{◌≡◌, true, sym, subst, ap, ◌∙◌}
use Rattle.sock_io.specs.LinkHalves.{LinkerState}
use Rattle.prog_link.specs.AnyKindLinker.{are_kind, kind_asked}
use Rattle.prog_link.proofs.LinksOfOneKind.{alike_none, alike_where}
use Rattle.prog_link.proofs.prog_linker.ProgLinker.is_alike.Goals as goal

pub returns-then-self-eq0 : goal.returns-then-self-eq0
returns-then-self-eq0 g c =
    let s = c.self.inside in let i = c.self.invariant in
    subst (λ l. true ≡ are_kind (kind_asked c.args.mode) l) (ap (λ (x : LinkerState). x.asked) c.self.view_is) (sym (alike_none (kind_asked c.args.mode) s.notes.asked (i.0 ∙ c.if-self-eq0.true)))

pub returns : goal.returns
returns g c =
    let s = c.self.inside in let i = c.self.invariant in
    subst (λ l. c.is_same_kind.result ≡ are_kind (kind_asked c.args.mode) l) (ap (λ (x : LinkerState). x.asked) c.self.view_is)
    (c.is_same_kind.ensures ∙ alike_where (kind_asked s.mode) (kind_asked c.args.mode) s.notes.asked i.1 (λ none. c.if-self-eq0.false (sym i.0 ∙ none)))
