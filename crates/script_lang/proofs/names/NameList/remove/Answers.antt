use Rattle.std.proofs.Common.{rules, not, filter, bytes_eq, ap, ◌∙◌}
use Rattle.std.proofs.lemmas.Fn.{filter_same}
use Rattle.script_lang.proofs.names.NameList.remove.Goals as goal

pub returns : goal.returns
returns c =
    let kept = filter_same _ (λ n. not (bytes_eq c.args.name.now n)) _ (λ x b f r. search rules) _ _ c.retain.ensures.filtered in
    kept ∙ ap (filter (λ n. not (bytes_eq c.args.name.now n))) c.self.view_is
