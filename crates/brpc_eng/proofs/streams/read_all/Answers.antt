use Rattle.std.proofs.Common.{◌++◌, take, arith, refl, length-append, length-take}
use Rattle.brpc_eng.proofs.KnownBytes.{Consumes-append}
use Rattle.brpc_eng.proofs.streams.read_all.Goals as goal

pub returns-then-is_err-clause-came : goal.returns-then-is_err-clause-came
returns-then-is_err-clause-came g c =
    let piece = take c.in-Ok.count c.read.new.room in (
      c.loop-room.bytes.items ++ piece,
      record {
        came = Consumes-append _ _ _ c.loop-room.bytes.items piece c.loop-room.invariant.came c.in-Ok.ensures.bytes.0;
        whole = tt;
        too_long = λ h. absurd (cc);
        within = λ long short. absurd (short refl);
        most = omega (
          arith,
          c.read.auto.room,
          c.min-most.ensures,
          c.len-in-loop-room.ensures,
          c.loop-room.invariant.few,
          length-append c.loop-room.bytes.items piece,
          length-take c.in-Ok.count c.read.new.room,
          length-take c.min-most.result c.loop-room.room,
        );
      },
    )
