-- The shape of a link of which none is asked.
use Rattle.std.specs.Prelude.{false, None}
use Rattle.sock_words.specs.declared.shape.Shape.{Shape}

-- no put takes less for it, none pauses, none fails, and no server stands behind it
abbrev pub plain_shape : Shape
plain_shape = record { piece = 4294967295; again = 0; fail = 0; serve = false; end = None }
