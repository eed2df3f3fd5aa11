use Rattle.std.proofs.Common.{◌≡◌, ℕ, ◌+◌, ◌≤◌, ◌++◌, List, Some, length, take, drop, min, arith, rules, ap, sym, ◌∙◌}
use Rattle.std.proofs.Math.Seq.{take-add}
use Rattle.std.proofs.lemmas.Grind.{common_steps}
use Rattle.sock_io.proofs.mem_link.MemIn.answer_take.Goals as goal

-- what was given before, and then what this take gives
given_more : (bytes given got : List ℕ) (at m : ℕ) → given ≡ take at bytes → got ≡ take m (drop at bytes) → take (at + m) bytes ≡ given ++ got
given_more bytes given got at m e f = take-add at m bytes ∙ ap (λ x. x ++ take m (drop at bytes)) (sym e) ∙ ap (λ x. given ++ x) (sym f)

given_count : (bytes given : List ℕ) (at m : ℕ) → given ≡ take at bytes → m ≤ length (drop at bytes) → at ≤ length bytes → length (take (at + m) bytes) ≡ length given + m
given_count bytes given at m e f within = grind (arith, common_steps)

pub returns-then-count-gt0-clause-step : goal.returns-then-count-gt0-clause-step
returns-then-count-gt0-clause-step c =
    let at = c.self.inside.at in
    let bytes = c.self.inside.bytes.items in
    let m = c.copy_front-count.result in
    let given : c.args.self.now.given ≡ take at bytes = cc in
    let got : take m c.copy_front-count.new.room ≡ take m (drop at bytes) = cc in
    let count : m ≡ min (length (drop at bytes)) (length c.args.room.now) = cc in
    let most : m ≤ length (drop at bytes) = omega arith in
    let within : at ≤ length bytes = search rules in
    let room : length c.copy_front-count.new.room ≡ length c.args.room.now = search rules in
    let fits : m ≤ length c.copy_front-count.new.room = omega arith in
    record {
      count = (c.if-count-gt0.true, fits);
      fills = search rules;
      gave = given_count bytes _ at m given most within;
      bytes = ap Some (given_more bytes _ _ at m given got);
      end = search rules;
      closed = search rules;
      takes = search rules;
      only_closing = search rules;
      closing = search rules;
      offer = search rules;
      way = search rules;
      later = search rules;
      failed = search rules;
      kept = search rules;
    }
