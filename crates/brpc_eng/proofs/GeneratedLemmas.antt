-- A script that was printed in part.
use Rattle.std.proofs.Common.{◌≡◌, Err, refl, subst, sym}
use Rattle.std.specs.Result.{IsErrOf}
use Rattle.script_print.specs.declared.print.PrintFault.{PrintFault}
use Rattle.script_print.specs.declared.print.PrintFault.TheVariants.{Sink}

-- the fault is the sink's
pub is_sink : {T : Type 0} (fault : PrintFault) → fault ≡ Sink → IsErrOf {T = T} (Err fault) Sink
is_sink {T} fault e = let P : PrintFault → Type 0 = λ f. IsErrOf {T = T} {E = PrintFault} (Err f) Sink in subst P (sym e) refl
