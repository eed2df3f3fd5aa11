use Rattle.std.proofs.Common.{◌≡◌, refl, map, length, vec_capacity, ap, sym, ◌∙◌, arith}
use Rattle.std.proofs.lemmas.List.{length-map}
use Rattle.sock_io.specs.LinkHalves.{end_of}
use Rattle.seat_programs.specs.Cores.{Calls}
use Rattle.client_seats.specs.ClientSeatState.{seat_data}
use Rattle.machine_model.specs.MachineLinks.{LinksData}
use Rattle.machine_model.specs.LetterHomes.{letters_in}
use Rattle.machine_model.specs.Machines.{MachineState}
use Rattle.sock_core.proofs.Starting.{begins_core, machine_begins}
use Rattle.sock_core.proofs.MachineMaking.{all_open, nothing_taken, nothing_given, none_closing, all_tell, all_prompt, machine_of_parts, parts_new, begins_plain}
use Rattle.sock_core.proofs.machine.Machine.start.Goals as goal

pub parts_of-requires : goal.parts_of-requires
parts_of-requires g c = let few = c.requires.for_.few_opens in omega (arith, few)

pub invariant_of-table : goal.invariant_of-table
invariant_of-table g c = (sym (ap (λ (a : Calls). a.plan.slots) ((c.in-Ok.ensures.parts c.args.wanted.calls.items).ids_are 0)), c.in-Ok.ensures.room)

pub invariant_of-result : goal.invariant_of-result
invariant_of-result g c =
    let clients = map (λ tasks. tasks.items) c.args.wanted.clients.items in
    let parts = c.in-Ok.ensures.parts c.args.wanted.calls.items in
    let l : LinksData = record { holders = c.in-Ok.parts.holders.items; nexts = c.in-Ok.parts.nexts.items; outs = map (λ e. g.O.Out.state e.out) c.args.ends.items; inns = map (λ e. g.I.In.state e.inn) c.args.ends.items } in
    let m : MachineState = machine_of_parts c.args.wanted.plan c.in-Ok.parts.words.items (letters_in c.in-Ok.parts.letters.items) l c.in-Ok.parts.ids c.args.wanted.calls.items (map seat_data c.in-Ok.parts.seats.items) c.in-Ok.parts.readers.items c.args.wanted.opens.items c.in-Ok.parts.outcomes.items (map (λ e. end_of (g.O.Out.state e.out) (g.I.In.state e.inn)) c.args.ends.items) in
    let ids = ap (λ (a : Calls). a.plan) (parts.ids_are 0) in
    let new_ = parts_new c.args.wanted.plan c.args.wanted.id_plan clients c.args.wanted.calls.items c.args.wanted.opens.items l _ m.letters _ _ _ _ parts (all_open (λ e. g.O.Out.state e.out) c.args.ends.items l refl c.requires.unused.fresh) in
    let many = length-map c.args.wanted.clients.items (λ tasks. tasks.items) in
    let outs = length-map c.args.ends.items (λ e. g.O.Out.state e.out) in
    let inns = length-map c.args.ends.items (λ e. g.I.In.state e.inn) in
    let ends = length-map c.args.ends.items (λ e. end_of (g.O.Out.state e.out) (g.I.In.state e.inn)) in
    let all : length c.args.ends.items ≡ c.args.wanted.plan.links = omega (arith, c.args.ends.ok, c.requires.links.0) in (
      machine_begins c.args.wanted.plan c.args.wanted.id_plan clients m c.requires.for_ refl ids new_ parts.words_are parts.seats_are parts.readers_are parts.ids_are refl parts.outcomes_are (vec_capacity c.in-Ok.parts.places)
          (nothing_taken (λ e. g.O.Out.state e.out) c.args.ends.items l refl c.requires.unused.unused) (nothing_given (λ e. g.I.In.state e.inn) c.args.ends.items l refl c.requires.unused.silent)
          (none_closing (λ e. g.I.In.state e.inn) c.args.ends.items l refl c.requires.unused.unclosed)
          (outs ∙ all) (inns ∙ all) (ends ∙ all) c.requires.links.1 (omega (arith, many, c.args.wanted.clients.ok, c.requires.seats)) c.in-Ok.ensures.places_room,
      c.in-Ok.ensures.places,
    )

pub returns-clause-core : goal.returns-clause-core
returns-clause-core g c =
    let clients = map (λ tasks. tasks.items) c.args.wanted.clients.items in
    let parts = c.in-Ok.ensures.parts c.args.wanted.calls.items in
    let l : LinksData = record { holders = c.in-Ok.parts.holders.items; nexts = c.in-Ok.parts.nexts.items; outs = map (λ e. g.O.Out.state e.out) c.args.ends.items; inns = map (λ e. g.I.In.state e.inn) c.args.ends.items } in
    let m : MachineState = machine_of_parts c.args.wanted.plan c.in-Ok.parts.words.items (letters_in c.in-Ok.parts.letters.items) l c.in-Ok.parts.ids c.args.wanted.calls.items (map seat_data c.in-Ok.parts.seats.items) c.in-Ok.parts.readers.items c.args.wanted.opens.items c.in-Ok.parts.outcomes.items (map (λ e. end_of (g.O.Out.state e.out) (g.I.In.state e.inn)) c.args.ends.items) in
    let new_ = parts_new c.args.wanted.plan c.args.wanted.id_plan clients c.args.wanted.calls.items c.args.wanted.opens.items l _ m.letters _ _ _ _ parts (all_open (λ e. g.O.Out.state e.out) c.args.ends.items l refl c.requires.unused.fresh) in
    begins_core c.args.wanted.plan c.args.wanted.id_plan clients m c.requires.for_ refl (ap (λ (a : Calls). a.plan) (parts.ids_are 0)) new_ parts.words_are parts.seats_are parts.readers_are parts.ids_are refl parts.outcomes_are

pub returns-clause-agrees : goal.returns-clause-agrees
returns-clause-agrees g c =
    let l : LinksData = record { holders = c.in-Ok.parts.holders.items; nexts = c.in-Ok.parts.nexts.items; outs = map (λ e. g.O.Out.state e.out) c.args.ends.items; inns = map (λ e. g.I.In.state e.inn) c.args.ends.items } in
    (nothing_taken (λ e. g.O.Out.state e.out) c.args.ends.items l refl c.requires.unused.unused, nothing_given (λ e. g.I.In.state e.inn) c.args.ends.items l refl c.requires.unused.silent)

pub returns-clause-plain : goal.returns-clause-plain
returns-clause-plain g c =
    let parts = c.in-Ok.ensures.parts c.args.wanted.calls.items in
    let l : LinksData = record { holders = c.in-Ok.parts.holders.items; nexts = c.in-Ok.parts.nexts.items; outs = map (λ e. g.O.Out.state e.out) c.args.ends.items; inns = map (λ e. g.I.In.state e.inn) c.args.ends.items } in
    let m : MachineState = machine_of_parts c.args.wanted.plan c.in-Ok.parts.words.items (letters_in c.in-Ok.parts.letters.items) l c.in-Ok.parts.ids c.args.wanted.calls.items (map seat_data c.in-Ok.parts.seats.items) c.in-Ok.parts.readers.items c.args.wanted.opens.items c.in-Ok.parts.outcomes.items (map (λ e. end_of (g.O.Out.state e.out) (g.I.In.state e.inn)) c.args.ends.items) in
    begins_plain m c.args.wanted.plan c.args.wanted.id_plan (map (λ tasks. tasks.items) c.args.wanted.clients.items) refl (ap (λ (a : Calls). a.plan) (parts.ids_are 0)) c.requires.for_.are parts.seats_are

pub returns-clause-plan : goal.returns-clause-plan
returns-clause-plan g c = (refl, ap (λ (a : Calls). a.plan) ((c.in-Ok.ensures.parts c.args.wanted.calls.items).ids_are 0))

pub returns-clause-over : goal.returns-clause-over
returns-clause-over g c =
    let l : LinksData = record { holders = c.in-Ok.parts.holders.items; nexts = c.in-Ok.parts.nexts.items; outs = map (λ e. g.O.Out.state e.out) c.args.ends.items; inns = map (λ e. g.I.In.state e.inn) c.args.ends.items } in record {
      enough = (refl, refl);
      ends = refl;
      outs = all_prompt (λ e. g.O.Out.state e.out) c.args.ends.items l refl;
      tell = all_tell (λ e. g.I.In.state e.inn) c.args.ends.items l refl;
      offers = λ k serve end h. h;
      shapes = λ k pacing h. h;
    }
