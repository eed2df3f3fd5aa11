use Rattle.machine_tables.proofs.tables.is_prepared.Goals as goal

pub returns-clause-prepared : goal.returns-clause-prepared
returns-clause-prepared c e = c.in-Ok.ensures
