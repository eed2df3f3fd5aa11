use Rattle.std.proofs.Common.{◌≡◌, ◌≢◌, IfNone, is_some, Some, None, refl, sym, ap, ◌∙◌}
use Rattle.sock_words.specs.declared.kind.Kind.{Kind}
use Rattle.sock_words.specs.KindText.{kind_text}
use Rattle.sock_words.proofs.KindNameLookup.{known, found_has_name, found_by_name}
use Rattle.sock_words.proofs.kind.Kind.from_text.Goals as goal

pub returns-clause-found : goal.returns-clause-found
returns-clause-found c = λ k. (
  (λ found. found_has_name c.args.text.now k (sym c.first_named.ensures ∙ found)),
  (λ same. c.first_named.ensures ∙ found_by_name c.args.text.now k same),
)

pub returns-clause-none : goal.returns-clause-none
returns-clause-none c =
    elim (c.first_named.result) as (λ r. (c.first_named.result ≡ r → IfNone r ((k : Kind) → kind_text k ≢ c.args.text.now))) [
      | None ↦ λ is_none. λ k same. let some : c.first_named.result ≡ Some k = c.first_named.ensures ∙ found_by_name c.args.text.now k same in cc
      | Some k ↦ λ is_some. tt
    ] refl

pub returns-clause-known : goal.returns-clause-known
returns-clause-known c = ap is_some c.first_named.ensures ∙ known c.args.text.now
