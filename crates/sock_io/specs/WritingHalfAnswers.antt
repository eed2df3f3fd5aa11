-- What a writing half answered.
use Rattle.brpc_model.specs.ReturnedLink.{HalfAnswer}
use Rattle.sock_io.specs.declared.answered.Answered.{Answered}
use Rattle.sock_io.specs.declared.answered.Answered.TheVariants.{Put, Ready}
use Rattle.sock_io.specs.LinkHalves.{of_put, of_ready}

abbrev pub half_answer : Answered → HalfAnswer
half_answer (Put put) = of_put put
half_answer (Ready ready) = of_ready ready
