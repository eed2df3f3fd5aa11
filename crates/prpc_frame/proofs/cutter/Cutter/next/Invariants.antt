use Rattle.prpc_frame.proofs.cutter.Cutter.next.Given as goal

abbrev pub ghost-of : goal.ghost-of
ghost-of a = a.by.now.items
