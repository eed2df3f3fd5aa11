use Rattle.std.proofs.Common.{◌++◌, ◌∷◌, [], refl, length, map, ap, sym, ◌∙◌, subst, arith}
use Rattle.std.proofs.lemmas.List.{length-map, length-append, length_push}
use Rattle.std.specs.VecDeque.Iter.{deque_iter_rest}
use Rattle.reader_seats.specs.ReaderState.{reader_program}
use Rattle.seat_programs.specs.ReaderProgram.{reader}
use Rattle.machine_model.specs.MachineParts.{AreReading}
use Rattle.machine_steps.proofs.BegunTables.{map_last, reading_more, item_last, none_left}
use Rattle.machine_tables.proofs.setup.readers_of.Goals as goal

pub loop-operation-init : goal.loop-operation-init
loop-operation-init c = record {
  all = c.into_iter-operation-iterator.ensures.into_iter_gives.0;
  readers = λ calls. ap (map (reader_program calls)) c.new-readers.ensures.items;
  count = refl;
}

pub overflow_add-link : goal.overflow_add-link
overflow_add-link c =
    let i = c.loop-operation.invariant in
    let xs = map (λ o. o.now) (c.loop-operation.yielded ++ c.in-Some.operation ∷ []) in
    let rest = deque_iter_rest c.next.new.self in
    let all = ap length (item_last (λ o. o.now) c.loop-operation.yielded c.in-Some.operation (deque_iter_rest c.loop-operation.operation-iterator) rest c.args.opens.now.items c.in-Some.ensures.steps i.all) in
    let count = i.count in
    let few = c.requires in
    let parts = length-append xs rest in
    let mapped = length-map (c.loop-operation.yielded ++ c.in-Some.operation ∷ []) (λ o. o.now) in
    let more = length_push c.loop-operation.yielded c.in-Some.operation in
    omega (arith, all, count, few, parts, mapped, more)

pub loop-operation-preserved : goal.loop-operation-preserved
loop-operation-preserved c =
    let i = c.loop-operation.invariant in
    let last = map_last (λ o. o.now) c.loop-operation.yielded c.in-Some.operation in
    record {
      all = item_last (λ o. o.now) c.loop-operation.yielded c.in-Some.operation (deque_iter_rest c.loop-operation.operation-iterator) (deque_iter_rest c.next.new.self) c.args.opens.now.items c.in-Some.ensures.steps i.all;
      readers = λ calls. subst (λ os. AreReading calls os c.push.new.self.items) (sym last) (subst (AreReading calls (map (λ o. o.now) c.loop-operation.yielded ++ c.in-Some.operation.now ∷ [])) (sym c.in_ok-push.ensures.items)
          (reading_more calls (map (λ o. o.now) c.loop-operation.yielded) c.in-Some.operation.now c.loop-operation.readers.items c.new.result (i.readers calls)
          (c.new.ensures calls ∙ ap (λ k. reader calls k c.in-Some.operation.now) (i.count ∙ sym (length-map c.loop-operation.yielded (λ o. o.now))))));
      count = (let count = i.count in let more = length_push c.loop-operation.yielded c.in-Some.operation in omega (arith, count, more));
    }

pub returns : goal.returns
returns c calls = let i = c.loop-operation.invariant in
    subst (λ os. AreReading calls os c.loop-operation.readers.items) (none_left (map (λ o. o.now) c.loop-operation.yielded) (deque_iter_rest c.loop-operation.operation-iterator) c.args.opens.now.items i.all c.in-None.ensures.steps.0) (i.readers calls)
