use Rattle.std.proofs.Common.{refl, ap, sym, ◌∙◌, Some, option_map}
use Rattle.script_links.specs.OfferedLinks.{TellOffers}
use Rattle.script_run.specs.Played.{TellClosed}
use Rattle.brpc_eng.specs.ProgramAnswers as answer
use Rattle.brpc_eng.specs.Command.{meaning}
use Rattle.brpc_eng.specs.StatusNumbers.{number_of}
use Rattle.brpc_eng.proofs.Replays.{drawn_command, load_command, frames_command, simulated}
use Rattle.brpc_eng.proofs.alone.answer_alone.Goals as goal

pub returns-in-None-clause-answers : goal.returns-in-None-clause-answers
returns-in-None-clause-answers g c = record {
  ends = answer.NoCommand c.tell_usage.ensures.wrong (sym c.in-None.ensures) refl c.requires.unused.0 c.tell_usage.ensures.told;
  accepted_none = (c.requires.unused.1, c.requires.unused.2);
}

pub returns-in-Replay-clause-answers : goal.returns-in-Replay-clause-answers
returns-in-Replay-clause-answers g c = record {
  ends = answer.Replays (sym c.in-Some.ensures ∙ ap (λ command. option_map meaning (Some command)) c.in-Replay.is) c.replay.ensures.replayed;
  accepted_none = (c.replay.ensures.connections.0 ∙ c.requires.unused.1, c.replay.ensures.connections.1 ∙ c.requires.unused.2);
}

pub returns-in-Sim-clause-answers : goal.returns-in-Sim-clause-answers
returns-in-Sim-clause-answers g c =
    let input = answer.source_over (g.S.Source.state c.args.source.now) (g.S.Source.state c.replay-in-Sim.new.source) in
    let out = answer.sink_over (g.K.Sink.state c.args.out.now) (g.K.Sink.state c.replay-in-Sim.new.out) in
    let links = answer.linker_over (TellClosed g.L.I.In.state) (TellOffers g.L.Linker.goes_by_shape g.L.O.Out.state g.L.I.In.state) g.L.Linker.tells_in (g.L.Linker.state c.args.links.now) (g.L.Linker.state c.replay-in-Sim.new.links) in record {
      ends = simulated _ _ input out links (number_of c.replay-in-Sim.result) c.in-Some.command c.in-Sim.seed c.from.result c.in-Some.ensures c.in-Sim.is c.from.ensures c.replay-in-Sim.ensures.replayed;
      accepted_none = (c.replay-in-Sim.ensures.connections.0 ∙ c.requires.unused.1, c.replay-in-Sim.ensures.connections.1 ∙ c.requires.unused.2);
    }

pub returns-in-Gen-clause-answers : goal.returns-in-Gen-clause-answers
returns-in-Gen-clause-answers g c = record {
  ends = drawn_command _ _ _ _ _ _ c.in-Some.command c.in-Gen.draw c.in-Some.ensures c.in-Gen.is refl c.requires.unused.0 c.print_generated.ensures;
  accepted_none = (c.requires.unused.1, c.requires.unused.2);
}

pub returns-in-Load-clause-answers : goal.returns-in-Load-clause-answers
returns-in-Load-clause-answers g c = record {
  ends = load_command _ _ _ _ _ _ c.in-Some.command c.in-Load.draw c.in-Some.ensures c.in-Load.is refl c.load.ensures.loaded;
  accepted_none = (c.load.ensures.connections.0 ∙ c.requires.unused.1, c.load.ensures.connections.1 ∙ c.requires.unused.2);
}

pub returns-in-Load-clause-counts : goal.returns-in-Load-clause-counts
returns-in-Load-clause-counts g c = record { source_still = λ other. refl; linker_still = c.load.ensures.linker }

pub returns-in-Frames-clause-answers : goal.returns-in-Frames-clause-answers
returns-in-Frames-clause-answers g c = record {
  ends = frames_command _ _ _ _ _ _ c.in-Some.command c.in-Some.ensures c.in-Frames.is c.requires.unused.0 c.frames.ensures.printed;
  accepted_none = (c.requires.unused.1, c.requires.unused.2);
}

pub returns-in-Frames-clause-counts : goal.returns-in-Frames-clause-counts
returns-in-Frames-clause-counts g c = record { source_still = c.frames.ensures.source; linker_still = λ other. refl }
