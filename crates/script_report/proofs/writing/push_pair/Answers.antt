use Rattle.std.proofs.Common.{rules, arith, ◌≡◌, ◌≤◌, ◌-◌, ◌+◌, ◌∷◌, ◌++◌, length, drop, decimal, length-set, append-nil, ap, ◌∙◌}
use Rattle.std.proofs.lemmas.Fmt.{length-decimal-le}
use Rattle.std.proofs.lemmas.List.{drop-set, take_all, length-drop}
use Rattle.script_report.proofs.writing.push_pair.Goals as goal

pub write_digits-behind-requires : goal.write_digits-behind-requires
write_digits-behind-requires c = let few : length (decimal c.args.second) ≤ 20 = search (rules, length-decimal-le 20) in (omega arith, omega arith)

pub overflow_sub-room : goal.overflow_sub-room
overflow_sub-room c = let few : length (decimal c.args.second) ≤ 20 = search (rules, length-decimal-le 20) in omega (arith, c.write_digits-behind.ensures.start)

pub overflow_sub-behind : goal.overflow_sub-behind
overflow_sub-behind c = let few : length (decimal c.args.second) ≤ 20 = search (rules, length-decimal-le 20) in omega (arith, c.write_digits-behind.ensures.start)

pub write_digits-start-requires : goal.write_digits-start-requires
write_digits-start-requires c =
    let few : length (decimal c.args.second) ≤ 20 = search (rules, length-decimal-le 20) in
    let first : length (decimal c.args.first) ≤ 20 = search (rules, length-decimal-le 20) in
    let at = c.write_digits-behind.ensures.start in
    let room = c.write_digits-behind.auto.buf in
    (omega (arith, at, first), omega (arith, at, room, length-set c.write_digits-behind.new.buf (c.write_digits-behind.result - 1) c.args.mark))

pub returns : goal.returns
returns c =
    let few : length (decimal c.args.second) ≤ 20 = search (rules, length-decimal-le 20) in
    let at = c.write_digits-behind.ensures.start in
    let room = c.write_digits-behind.new.buf in
    let behind = c.write_digits-behind.result in
    let within : behind - 1 + 1 ≡ behind = omega (arith, at) in
    let start = c.write_digits-start.result in
    let digits = c.write_digits-start.new.buf in
    let written = c.write_digits-start.ensures.written ∙ ap (λ l. decimal c.args.first ++ l)
    (drop-set room (behind - 1) c.args.mark (omega (arith, at, c.write_digits-behind.auto.buf)) ∙ ap (λ l. c.args.mark ∷ l) (ap (λ n. drop n room) within ∙ (c.write_digits-behind.ensures.written ∙ append-nil (decimal c.args.second)))) in
    let whole : length (drop start digits) ≤ 41 - start = omega (arith, length-drop start digits, c.write_digits-start.auto.buf, c.write_digits-behind.auto.buf, length-set room (behind - 1) c.args.mark) in
    c.in_ok-extend_from_slice.ensures.items ∙ ap (λ l. c.args.text.now.items ++ l) (take_all (41 - start) (drop start digits) whole ∙ written)
