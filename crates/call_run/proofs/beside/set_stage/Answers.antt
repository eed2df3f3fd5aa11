use Rattle.call_run.proofs.beside.set_stage.Goals as goal

pub returns : goal.returns
returns g c = record { room = c.in_ok-room.ensures; cast = c.in_ok-cast.ensures; besides = c.in_ok-links.ensures.besides; left = c.in_ok-links.ensures.left; plan = c.in_ok-ids.ensures.plan; seats = c.in_ok-ids.ensures.seats }
