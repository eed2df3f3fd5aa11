use Rattle.std.proofs.Common.{rules, arith, ◌≡◌, ◌++◌, List, length, ℕ, ap, ◌∙◌}
use Rattle.std.proofs.lemmas.List.{take_all}
use Rattle.sock_io.specs.declared.link.Put.{Put}
use Rattle.sock_io.specs.declared.link.Put.TheVariants as put
use Rattle.sock_io.specs.LinkHalves.{taken_of}
use Rattle.ring_link.specs.InsideRingLink.{InnerState}
use Rattle.ring_link.proofs.Insides.{put_took, serves_put}
use Rattle.ring_link.proofs.inner.Inner.takes.Goals as goal

pub invariant_of-self : goal.invariant_of-self
invariant_of-self c = serves_put c.self.inside.ends.out c.put.new.self c.self.inside.ends.inn c.args.piece.now c.put.result c.put.ensures.step c.self.invariant

whole : (piece before after : List ℕ) (result : Put) → after ≡ before ++ taken_of piece result → result ≡ put.Took (length piece) → after ≡ before ++ piece
whole piece before after result e is = e ∙ ap (λ (r : Put). before ++ taken_of piece r) is ∙ ap (λ (b : List ℕ). before ++ b) (take_all (length piece) piece (omega arith))

pub returns-clause-all : goal.returns-clause-all
returns-clause-all c t = whole c.args.piece.now c.args.self.now.took c.put.new.self.taken c.put.result
    (put_took c.self.inside.ends.out c.put.new.self c.self.inside.ends.inn c.args.piece.now c.put.result c.put.ensures.step ∙ ap (λ (s : InnerState). s.took ++ taken_of c.args.piece.now c.put.result) c.self.view_is)
    (search rules)
