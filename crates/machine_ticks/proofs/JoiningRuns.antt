-- Runs of a machine, one behind another; and more ticks of a seat that has no step left.
use Rattle.std.proofs.Common.{◌≡◌, ◌≢◌, ℕ, zero, suc, ◌+◌, Bool, true, List, [], ◌∷◌, ◌++◌, ◌==◌, map, filter, replicate, refl, sym, ap, ap₂, ◌∙◌, subst, ⊎_elim, append-nil, append_assoc, arith}
use Rattle.std.proofs.lemmas.List.Concat.{flat_map-append}
use Rattle.std.proofs.lemmas.List.Sums.{fold-append}
use Rattle.std.proofs.lemmas.List.Elements.{Contains-append_cases}
use Rattle.std.proofs.lemmas.Option.{none-some, same_Some}
use Rattle.std.specs.List.{AllByRecursion}
use Rattle.std.specs.Prelude as std
use Rattle.std.specs.Prelude.{slice_get, Some, None, IfSome, unwrap_or, option_map}
use mathlib.Core.Option.{Option, some, none, some-ne-none}
use lib.ListN.{get_elem?}
use Rattle.sock_words.specs.declared.kind.Kind.{Kind}
use Rattle.sock_words.specs.declared.plain.Plan.{Plan}
use Rattle.sock_words.specs.declared.shape.Shape.{Shape}
use Rattle.brpc_model.specs.ReturnedLink.{LinkEnd, HalfAnswer, TakeAnswer}
use Rattle.sock_io.specs.LinkHalves.{OutState, more_told}
use Rattle.machine_model.specs.run_theorems.specs.LinkAnswers.{said_at}
use Rattle.machine_model.specs.run_theorems.specs.Heard.{as_told, as_taken, answer_of, take_answers, taken_link, heard_at, heard_in, taken_at, taken_in}
use Rattle.machine_model.specs.run_theorems.proofs.HeardRuns.{told_append, taken_append, heard_on, taken_on}
use Rattle.machine_model.specs.run_theorems.specs.call_owing.specs.LivesOfLinks.{ClosesAt, ClosesInTime}
use Rattle.machine_model.specs.run_theorems.specs.OfferedAtTakes.{OffersAt, AreOffered}
use Rattle.machine_model.specs.run_theorems.specs.ShapedPuts.{ShapedAt, AreShaped}
use Rattle.seat_programs.specs.Asides.{TakeBytes, Taking, Bytes, Nothing, NoMore, AtEnd, Closed, Broken}
use Rattle.seat_programs.specs.Programs.{Program, Aside, Say, Sent, Rest, Keep, Retries}
use Rattle.seat_programs.specs.Cores.{Core, SeatState}
use Rattle.seat_programs.specs.Ticks.{Answer, Unasked, Moment, quiet, seats_of, taken, tick_with, ticked, run, IsAnswer, IsAnswered, AreAnswered, IsAlwaysReady, asked_link, broken_at, broken_in}
use Rattle.seat_programs.specs.ScheduledRuns.{kind_in, IsAtRest}
use Rattle.machine_model.specs.declared.tick.Tick.{Tick}
use Rattle.machine_model.specs.MachineLinks.{LinksData, Taken, Given, Agrees, AgreesGave, IsShapedSo}
use Rattle.seat_programs.specs.declared.task.Sizes.{Sizes}
use Rattle.client_seats.specs.ClientSeatState.{SeatData, seat_program}
use Rattle.reader_seats.specs.ReaderState.{ReaderData, reader_program}
use Rattle.machine_model.specs.Machines.{MachineState, READERS, machine_sizes, between, resting, clients_with, readers_with, seats_with, core_with}
use Rattle.machine_model.specs.MachineRuns.{SameLink, SameTable, SameLinks, ShowFaults, LinksTell, TakesTell, ShowsTaking, ShowTakings, LinksShow, Follows, Made, Ticked, Ran, RanWith}
use Rattle.machine_model.proofs.Same.{stood_before, same_table_none, same_table_join, same_links_none, same_links_join}
use Rattle.seat_programs.specs.LoopRounds.{first_step}

-- ## Links that failed

pub show_faults_none : (m : MachineState) → ShowFaults m []
show_faults_none m k e has at = let inside = has.1 in absurd (omega (arith, inside))

pub show_faults_later : (b c : MachineState) (broken : List ℕ) → ShowFaults b broken → SameLinks b c → ShowFaults c broken
show_faults_later b c broken shown same k e has at =
    let y = stood_before b.ends c.ends k e same.as_many at in let before = shown k y.0 has y.1 in let later = (same.each k y.0 e y.1 at).later in omega (arith, before, later)

pub show_faults_join : (m : MachineState) (xs ys : List ℕ) → ShowFaults m xs → ShowFaults m ys → ShowFaults m (xs ++ ys)
show_faults_join m xs ys first second k e has at = ⊎_elim (λ h. first k e h at) (λ h. second k e h at) (Contains-append_cases xs ys k has)

-- ## What links answered

pub more_none : {A : Type 0} (told : std.Option (List A)) → more_told told [] ≡ told
more_none None = refl
more_none (Some answers) = ap Some (append-nil answers)

more_twice : {A : Type 0} (told : std.Option (List A)) (xs ys : List A) → more_told (more_told told xs) ys ≡ more_told told (xs ++ ys)
more_twice None xs ys = refl
more_twice (Some answers) xs ys = ap Some (append_assoc answers xs ys)

pub tells_none : (a b : MachineState) → b.ends ≡ a.ends → (heard : ℕ → List Answer) → ((k : ℕ) → heard k ≡ []) → LinksTell a b heard
tells_none a b same heard none_ = record {
  each = λ k x y at also. let is : x ≡ y = same_Some x y (sym at ∙ ap (λ (es : List LinkEnd). slice_get es k) (sym same) ∙ also) in
      ap (λ (e : LinkEnd). e.answers) (sym is) ∙ sym (more_none x.answers) ∙ ap (λ (xs : List Answer). more_told x.answers (as_told xs)) (sym (none_ k));
  none_beyond = λ k past. none_ k;
}

pub tells_join : (a b c : MachineState) (first second : ℕ → List Answer) → SameLinks a b → SameLinks b c → LinksTell a b first → LinksTell b c second → LinksTell a c (λ k. first k ++ second k)
tells_join a b c first second same after f g = record {
  each = λ k x z at also. let y = stood_before b.ends c.ends k z after.as_many also in
      g.each k y.0 z y.1 also ∙ ap (λ (o : std.Option (List HalfAnswer)). more_told o (as_told (second k))) (f.each k x y.0 at y.1)
      ∙ more_twice x.answers (as_told (first k)) (as_told (second k)) ∙ ap (more_told x.answers) (sym (told_append (first k) (second k)));
  none_beyond = λ k past. ap (λ (l : List Answer). l ++ second k) (f.none_beyond k past) ∙ g.none_beyond k (let many = same.as_many in omega (arith, many, past));
}

-- the links stand as they stood
pub tells_on : (a b c : MachineState) (heard : ℕ → List Answer) → c.ends ≡ b.ends → LinksTell a b heard → LinksTell a c heard
tells_on a b c heard same t = record {
  each = λ k x y at also. t.each k x y at (ap (λ (es : List LinkEnd). slice_get es k) (sym same) ∙ also);
  none_beyond = t.none_beyond;
}

-- the same answers, said otherwise
pub tells_as : (a b : MachineState) (heard said : ℕ → List Answer) → ((k : ℕ) → heard k ≡ said k) → LinksTell a b heard → LinksTell a b said
tells_as a b heard said same t = record {
  each = λ k x y at also. t.each k x y at also ∙ ap (λ (l : List Answer). more_told x.answers (as_told l)) (same k);
  none_beyond = λ k past. sym (same k) ∙ t.none_beyond k past;
}

-- and what their reading halves did
pub takes_none : (a b : MachineState) → b.ends ≡ a.ends → (taken : ℕ → List Answer) → ((k : ℕ) → taken k ≡ []) → TakesTell a b taken
takes_none a b same taken none_ = record {
  each = λ k x y at also. let is : x ≡ y = same_Some x y (sym at ∙ ap (λ (es : List LinkEnd). slice_get es k) (sym same) ∙ also) in
      ap (λ (e : LinkEnd). e.takes) (sym is) ∙ sym (more_none x.takes) ∙ ap (λ (xs : List Answer). more_told x.takes (take_answers (as_taken xs))) (sym (none_ k));
  none_beyond = λ k past. none_ k;
}

pub takes_join : (a b c : MachineState) (first second : ℕ → List Answer) → SameLinks a b → SameLinks b c → TakesTell a b first → TakesTell b c second → TakesTell a c (λ k. first k ++ second k)
takes_join a b c first second same after f g = record {
  each = λ k x z at also. let y = stood_before b.ends c.ends k z after.as_many also in
      g.each k y.0 z y.1 also ∙ ap (λ (o : std.Option (List TakeAnswer)). more_told o (take_answers (as_taken (second k)))) (f.each k x y.0 at y.1)
      ∙ more_twice x.takes (take_answers (as_taken (first k))) (take_answers (as_taken (second k)))
      ∙ ap (more_told x.takes) (sym (flat_map-append answer_of (as_taken (first k)) (as_taken (second k))) ∙ ap take_answers (sym (taken_append (first k) (second k))));
  none_beyond = λ k past. ap (λ (l : List Answer). l ++ second k) (f.none_beyond k past) ∙ g.none_beyond k (let many = same.as_many in omega (arith, many, past));
}

pub takes_on : (a b c : MachineState) (taken : ℕ → List Answer) → c.ends ≡ b.ends → TakesTell a b taken → TakesTell a c taken
takes_on a b c taken same t = record {
  each = λ k x y at also. t.each k x y at (ap (λ (es : List LinkEnd). slice_get es k) (sym same) ∙ also);
  none_beyond = t.none_beyond;
}

pub takes_as : (a b : MachineState) (taken said : ℕ → List Answer) → ((k : ℕ) → taken k ≡ said k) → TakesTell a b taken → TakesTell a b said
takes_as a b taken said same t = record {
  each = λ k x y at also. t.each k x y at also ∙ ap (λ (l : List Answer). more_told x.takes (take_answers (as_taken l))) (same k);
  none_beyond = λ k past. sym (same k) ∙ t.none_beyond k past;
}

-- ## What reading halves answered

shows_later : (t : Taking) (x y : LinkEnd) → SameLink x y → ShowsTaking t x → ShowsTaking t y
shows_later (Bytes bytes) x y same shown = tt
shows_later Nothing x y same shown = tt
shows_later NoMore x y same shown = tt
shows_later AtEnd x y same shown = same.gave_end shown
shows_later Closed x y same shown = ⊎_elim (λ e. subst (λ o. IfSome o (λ closed. closed ≡ true)) (sym e) shown) (λ e. subst (λ o. IfSome o (λ closed. closed ≡ true)) (sym e) (all_true x.closed)) same.closed
  where
    all_true : (o : std.Option Bool) → IfSome (option_map (λ _. true) o) (λ closed. closed ≡ true)
    all_true None = tt
    all_true (Some b) = refl
shows_later Broken x y same shown = let more = same.later_takes in omega (arith, shown, more)

all_later : (ts : List Taking) (x y : LinkEnd) → SameLink x y → AllByRecursion (λ t. ShowsTaking t x) ts → AllByRecursion (λ t. ShowsTaking t y) ts
all_later [] x y same all = tt
all_later (t ∷ ts) x y same all = (shows_later t x y same all.0, all_later ts x y same all.1)

all_both : (P : Taking → Type 0) (xs ys : List Taking) → AllByRecursion P xs → AllByRecursion P ys → AllByRecursion P (xs ++ ys)
all_both P [] ys first second = second
all_both P (x ∷ xs) ys first second = (first.0, all_both P xs ys first.1 second)

pub takings_none : (m : MachineState) (taken : ℕ → List Answer) → ((k : ℕ) → taken k ≡ []) → ShowTakings m taken
takings_none m taken none_ k e at = subst (λ (l : List Answer). AllByRecursion (λ t. ShowsTaking t e) (as_taken l)) (sym (none_ k)) tt

pub takings_later : (b c : MachineState) (taken : ℕ → List Answer) → ShowTakings b taken → SameLinks b c → ShowTakings c taken
takings_later b c taken shown same k e at = let y = stood_before b.ends c.ends k e same.as_many at in all_later (as_taken (taken k)) y.0 e (same.each k y.0 e y.1 at) (shown k y.0 y.1)

pub takings_join : (m : MachineState) (first second : ℕ → List Answer) → ShowTakings m first → ShowTakings m second → ShowTakings m (λ k. first k ++ second k)
takings_join m first second f g k e at = subst (λ (l : List Taking). AllByRecursion (λ t. ShowsTaking t e) l) (sym (taken_append (first k) (second k))) (all_both (λ t. ShowsTaking t e) (as_taken (first k)) (as_taken (second k)) (f k e at) (g k e at))

pub takings_as : (m : MachineState) (taken said : ℕ → List Answer) → ((k : ℕ) → taken k ≡ said k) → ShowTakings m taken → ShowTakings m said
takings_as m taken said same shown k e at = subst (λ (l : List Answer). AllByRecursion (λ t. ShowsTaking t e) (as_taken l)) (same k) (shown k e at)

-- ## All that links show

pub shows_none : (a b : MachineState) {failed : List ℕ} {heard got : ℕ → List Answer} → b.ends ≡ a.ends → failed ≡ [] → ((k : ℕ) → heard k ≡ []) → ((k : ℕ) → got k ≡ []) → LinksShow a b failed heard got
shows_none a b {failed} {heard} {got} same whole unheard ungot = record {
  broken = subst (ShowFaults b) (sym whole) (show_faults_none b);
  told = tells_none a b same heard unheard;
  taken = takings_none b got ungot;
  takes = takes_none a b same got ungot;
}

pub shows_join : (a b c : MachineState) {xs ys : List ℕ} {first second got more : ℕ → List Answer} → SameLinks a b → SameLinks b c → LinksShow a b xs first got → LinksShow b c ys second more → LinksShow a c (xs ++ ys) (λ k. first k ++ second k) (λ k. got k ++ more k)
shows_join a b c {xs} {ys} {first} {second} {got} {more} links after s t = record {
  broken = show_faults_join c xs ys (show_faults_later b c xs s.broken after) t.broken;
  told = tells_join a b c first second links after s.told t.told;
  taken = takings_join c got more (takings_later b c got s.taken after) t.taken;
  takes = takes_join a b c got more links after s.takes t.takes;
}

-- the links stand as they stood
pub shows_on : (a b c : MachineState) {failed : List ℕ} {heard got : ℕ → List Answer} → c.ends ≡ b.ends → LinksShow a b failed heard got → LinksShow a c failed heard got
shows_on a b c {failed} {heard} {got} same s = record {
  broken = λ k e has at. s.broken k e has (ap (λ (es : List LinkEnd). slice_get es k) (sym same) ∙ at);
  told = tells_on a b c heard same s.told;
  taken = λ k e at. s.taken k e (ap (λ (es : List LinkEnd). slice_get es k) (sym same) ∙ at);
  takes = takes_on a b c got same s.takes;
}

-- the same, said otherwise
pub shows_as : (a b : MachineState) {failed failed' : List ℕ} {heard heard' got got' : ℕ → List Answer} → LinksShow a b failed heard got → failed ≡ failed' → ((k : ℕ) → heard k ≡ heard' k) → ((k : ℕ) → got k ≡ got' k) → LinksShow a b failed' heard' got'
shows_as a b {failed} {failed'} {heard} {heard'} {got} {got'} s same same_heard same_got = record {
  broken = subst (ShowFaults b) same s.broken;
  told = tells_as a b heard heard' same_heard s.told;
  taken = takings_as b got got' same_got s.taken;
  takes = takes_as a b got got' same_got s.takes;
}

-- of the ticks of a seat that has no step left
pub shows_idle : (a b : MachineState) {failed failed' : List ℕ} {heard heard' got got' : ℕ → List Answer} → LinksShow a b failed heard got → failed' ≡ [] → ((k : ℕ) → heard k ≡ heard' k) → ((k : ℕ) → got k ≡ got' k) → LinksShow a b failed' heard' got'
shows_idle a b {failed} {failed'} {heard} {heard'} {got} {got'} s whole same_heard same_got = shows_as a b {failed = []} {failed' = failed'} {heard = heard} {heard' = heard'} {got = got} {got' = got'} (record { broken = show_faults_none b; told = s.told; taken = s.taken; takes = s.takes }) (sym whole) same_heard same_got

-- ## Ticks, one behind another

pub seats_append : (xs ys : List Moment) → seats_of (xs ++ ys) ≡ seats_of xs ++ seats_of ys
seats_append [] ys = refl
seats_append (m ∷ ms) ys = ap (λ (is : List ℕ). m.seat ∷ is) (seats_append ms ys)

pub prompt_append : (xs ys : List Moment) → AllByRecursion IsAlwaysReady xs → AllByRecursion IsAlwaysReady ys → AllByRecursion IsAlwaysReady (xs ++ ys)
prompt_append [] ys first second = second
prompt_append (m ∷ ms) ys first second = (first.0, prompt_append ms ys first.1 second)

-- no link answered that it is closed
pub not_closed : (p : Plan) (c : Core) (answer : Answer) (program : Program) → taken answer ≢ some Closed → ClosesAt p c answer program
not_closed p c answer (Aside (TakeBytes k room) next) differ = λ e. absurd (differ e)
not_closed p c answer _ differ = tt

pub quiet_closes : (p : Plan) (c : Core) (n i : ℕ) → ClosesInTime p c (replicate n (quiet i))
quiet_closes p c zero i = tt
quiet_closes p c (suc n) i = (λ seat at. not_closed p c Unasked (first_step seat.program) (λ e. cc), quiet_closes p (ticked p c (quiet i)) n i)

-- no take was answered
pub not_offered : (p : Plan) (k : ℕ) (serve : std.Bool) (end : std.Option ℕ) (c : Core) (answer : Answer) (program : Program) → taken answer ≡ none → OffersAt p k serve end c answer program
not_offered p k serve end c answer (Aside (TakeBytes j room) next) none_ = λ same t is. absurd (some-ne-none t (sym is ∙ none_))
not_offered p k serve end c answer _ none_ = tt

pub quiet_offers : (p : Plan) (k : ℕ) (serve : std.Bool) (end : std.Option ℕ) (c : Core) (n i : ℕ) → AreOffered p k serve end c (replicate n (quiet i))
quiet_offers p k serve end c zero i = tt
quiet_offers p k serve end c (suc n) i = (λ seat at. not_offered p k serve end c Unasked (first_step seat.program) refl, quiet_offers p k serve end (ticked p c (quiet i)) n i)

pub offers_append : (p : Plan) (k : ℕ) (serve : std.Bool) (end : std.Option ℕ) (c : Core) (xs ys : List Moment) → AreOffered p k serve end c xs → AreOffered p k serve end (run p c xs) ys → AreOffered p k serve end c (xs ++ ys)
offers_append p k serve end c [] ys first second = second
offers_append p k serve end c (m ∷ ms) ys first second = (first.0, offers_append p k serve end (ticked p c m) ms ys first.1 second)

-- ticks one behind another, of which each put of a link is answered by its shape
pub shapes_append : (p : Plan) (k : ℕ) (shape : Shape) (so_far : List Answer) (c : Core) (xs ys : List Moment) → AreShaped p k shape so_far c xs → AreShaped p k shape (so_far ++ heard_in p c xs k) (run p c xs) ys → AreShaped p k shape so_far c (xs ++ ys)
shapes_append p k shape so_far c [] ys first second = subst (λ (answers : List Answer). AreShaped p k shape answers c ys) (append-nil so_far) second
shapes_append p k shape so_far c (m ∷ ms) ys first second = (
  first.0,
  shapes_append p k shape (so_far ++ heard_at c m k) (ticked p c m) ms ys first.1
      (subst (λ (answers : List Answer). AreShaped p k shape answers (run p (ticked p c m) ms) ys) (sym (append_assoc so_far (heard_at c m k) (heard_in p (ticked p c m) ms k))) second),
)

module _ (p : Plan) where
  pub run_append : (c : Core) (xs ys : List Moment) → run p c (xs ++ ys) ≡ run p (run p c xs) ys
  run_append c xs ys = fold-append (ticked p) c xs ys

  pub answered_append : (c : Core) (xs ys : List Moment) → AreAnswered p c xs → AreAnswered p (run p c xs) ys → AreAnswered p c (xs ++ ys)
  answered_append c [] ys first second = second
  answered_append c (m ∷ ms) ys first second = (first.0, answered_append (ticked p c m) ms ys first.1 second)

  pub closes_append : (c : Core) (xs ys : List Moment) → ClosesInTime p c xs → ClosesInTime p (run p c xs) ys → ClosesInTime p c (xs ++ ys)
  closes_append c [] ys first second = second
  closes_append c (m ∷ ms) ys first second = (first.0, closes_append (ticked p c m) ms ys first.1 second)

  pub broken_append : (c : Core) (xs ys : List Moment) → broken_in p c (xs ++ ys) ≡ broken_in p c xs ++ broken_in p (run p c xs) ys
  broken_append c [] ys = refl
  broken_append c (m ∷ ms) ys =
      ap (λ (later : List ℕ). broken_at c m ++ later) (broken_append (ticked p c m) ms ys) ∙ sym (append_assoc (broken_at c m) (broken_in p (ticked p c m) ms) (broken_in p (run p (ticked p c m) ms) ys))

pub follows_none : (m : MachineState) (took : Taken) (gave : Given) → Agrees m.links took → AgreesGave m.links gave → Follows m m took gave []
follows_none m took gave agrees agrees_gave = record {
  answered = tt;
  always_ready = λ h. tt;
  closes = λ h. tt;
  offers = λ k serve end h. (tt, h);
  shapes = λ k shape so_far h. (tt, subst (IsShapedSo m.links k shape) (sym (append-nil so_far)) h);
  so_far = record { took = took; gave = gave; agrees = agrees; agrees_gave = agrees_gave };
  core = refl;
  shows = shows_none m m refl refl (λ k. refl) (λ k. refl);
}

module _ (a b c : MachineState) (took : Taken) (gave : Given) (xs ys : List Moment) (table : SameTable a b) (links : SameLinks a b) (after : SameLinks b c) (f : Follows a b took gave xs) (g : Follows b c f.later f.later_gave ys) where
  abbrev start : Core
  start = core_with a took gave

  -- what holds of the later ticks from the core behind the machine's holds of them from the run of the earlier ones
  moved : (P : Plan → Core → Type 0) → P b.plan (core_with b f.later f.later_gave) → P a.plan (run a.plan start xs)
  moved P h = subst (λ (d : Core). P a.plan d) f.core (subst (λ (p : Plan). P p (core_with b f.later f.later_gave)) table.plan h)

  pub follows_join : Follows a c took gave (xs ++ ys)
  follows_join = record {
    answered = answered_append a.plan start xs ys f.answered (moved (λ p d. AreAnswered p d ys) g.answered);
    always_ready = λ always_ready. prompt_append xs ys (f.always_ready always_ready) (g.always_ready (links.always_ready always_ready));
    closes = λ tell. closes_append a.plan start xs ys (f.closes tell) (moved (λ p d. ClosesInTime p d ys) (g.closes (links.tell tell)));
    offers = λ k serve end h. let x = f.offers k serve end h in let y = g.offers k serve end x.1 in (offers_append a.plan k serve end start xs ys x.0 (moved (λ p d. AreOffered p k serve end d ys) y.0), y.1);
    shapes = λ k shape so_far h.
        let said : List Answer = so_far ++ heard_in a.plan start xs k in
        let x = f.shapes k shape so_far h in
        let y = g.shapes k shape said x.1 in (
          shapes_append a.plan k shape so_far start xs ys x.0 (moved (λ p d. AreShaped p k shape said d ys) y.0),
          subst (IsShapedSo c.links k shape) (append_assoc so_far (heard_in a.plan start xs k) (heard_in a.plan (run a.plan start xs) ys k) ∙ ap (λ (l : List Answer). so_far ++ l) (sym (heard_on a.plan start xs ys k)))
              (moved (λ p d. IsShapedSo c.links k shape (said ++ heard_in p d ys k)) y.1),
        );
    so_far = g.so_far;
    core = moved (λ p d. core_with c g.later g.later_gave ≡ run p d ys) g.core ∙ sym (run_append a.plan start xs ys);
    shows = shows_as a c (shows_join a b c links after f.shows (moved (λ p d. LinksShow b c (broken_in p d ys) (heard_in p d ys) (taken_in p d ys)) g.shows))
        (sym (broken_append a.plan start xs ys)) (λ k. sym (heard_on a.plan start xs ys k)) (λ k. sym (taken_on a.plan start xs ys k));
  }

-- ## Runs, one behind another

pub ran_none : (m : MachineState) → Ran m m []
ran_none m = (same_table_none m, same_links_none m, λ took gave agrees agrees_gave. record { moments = []; is = refl; follows = follows_none m took gave agrees agrees_gave })

pub ran_one : (a b : MachineState) (i : ℕ) (tick : Tick) → Ticked a b i tick → Ran a b (i ∷ [])
ran_one a b i tick t = (
  t.0,
  t.1,
  λ took gave agrees agrees_gave. let w = t.2 took gave agrees agrees_gave in record { moments = w.moment ∷ []; is = ap (λ (j : ℕ). j ∷ []) w.is_of; follows = w.follows },
)

-- what is said of ticks from a machine on, and of those behind them
pub made_join : (a b c : MachineState) (P Q R : Taken → Given → Type 0) → Made a b P → Made b c Q →
    ((took : Taken) (gave : Given) → Agrees a.links took → AgreesGave a.links gave → SameTable a b → SameLinks a b → SameLinks b c → P took gave → ((later : Taken) (later_gave : Given) → Agrees b.links later → AgreesGave b.links later_gave → Q later later_gave) → R took gave) → Made a c R
made_join a b c P Q R r s join = (
  same_table_join a b c r.0 s.0,
  same_links_join a b c r.1 s.1,
  λ took gave agrees agrees_gave. join took gave agrees agrees_gave r.0 r.1 s.1 (r.2 took gave agrees agrees_gave) s.2,
)

pub ran_join : (a b c : MachineState) (xs ys : List ℕ) → Ran a b xs → Ran b c ys → Ran a c (xs ++ ys)
ran_join a b c xs ys r s = made_join a b c (RanWith a b xs) (RanWith b c ys) (RanWith a c (xs ++ ys)) r s (λ took gave agrees agrees_gave table links after x later. let f = x.follows in let y = later f.later f.later_gave f.agrees f.agrees_gave in record {
  moments = x.moments ++ y.moments;
  is = seats_append x.moments y.moments ∙ ap₂ (λ (is js : List ℕ). is ++ js) x.is y.is;
  follows = follows_join a b c took gave x.moments y.moments table links after f y.follows;
})

pub ran_more : (a b c : MachineState) (seats : List ℕ) (i : ℕ) (tick : Tick) → Ran a b seats → Ticked b c i tick → Ran a c (seats ++ i ∷ [])
ran_more a b c seats i tick r t = ran_join a b c seats (i ∷ []) r (ran_one b c i tick t)

-- ## Seats at rest

module _ (p : Plan) (c : Core) where
  rests_with : (i : ℕ) (seat : SeatState) (answer : Answer) (program : Program) → kind_in program ≡ None → tick_with p i seat c answer program ≡ c
  rests_with i seat answer Rest rest = refl
  rests_with i seat answer (Say o outcome next) rest = refl
  rests_with i seat answer (Sent o next) rest = refl
  rests_with i seat answer (Keep r next) rest = refl
  rests_with i seat answer (Retries requests after) rest = refl
  rests_with i seat answer _ rest = absurd (none-some _ (sym rest))

  rests_by : (i : ℕ) (answer : Answer) (q : Option SeatState) → elim q as (λ o. std.Option Kind) [ none ↦ None | some seat ↦ kind_in seat.program ] ≡ None
      → elim q as (λ o. Core) [ none ↦ c | some seat ↦ tick_with p i seat c answer seat.program ] ≡ c
  rests_by i answer none rest = refl
  rests_by i answer (some seat) rest = rests_with i seat answer seat.program rest

  -- a tick of a seat that has no step left changes nothing
  pub rests : (m : Moment) → IsAtRest c m.seat → ticked p c m ≡ c
  rests m rest = rests_by m.seat m.answer (get_elem? c.seats m.seat) rest

-- its program asks no link
asks_none : (program : Program) → kind_in program ≡ None → IsAnswer program Unasked
asks_none Rest rest = tt
asks_none (Say o outcome next) rest = tt
asks_none (Sent o next) rest = tt
asks_none (Keep r next) rest = tt
asks_none (Retries requests after) rest = tt
asks_none _ rest = absurd (none-some _ (sym rest))

pub rest_answered : (c : Core) (i : ℕ) → IsAtRest c i → IsAnswered c (quiet i)
rest_answered c i rest seat at = asks_none seat.program (ap (λ (o : Option SeatState). elim o as (λ o. std.Option Kind) [ none ↦ None | some s ↦ kind_in s.program ]) (sym at) ∙ rest)

-- it asks no half of a link
asks_no_half : (asks : Program → List ℕ) → ((program : Program) → kind_in program ≡ None → asks program ≡ []) → (c : Core) (m : Moment) → IsAtRest c m.seat → said_at asks c m ≡ []
asks_no_half asks none_ c m rest = by (get_elem? c.seats m.seat) rest
  where
    by : (q : Option SeatState) → elim q as (λ o. std.Option Kind) [ none ↦ None | some seat ↦ kind_in seat.program ] ≡ None → elim q as (λ o. List Answer) [ none ↦ [] | some seat ↦ map (λ (j : ℕ). m.answer) (asks seat.program) ] ≡ []
    by none rest = refl
    by (some seat) rest = ap (map (λ (j : ℕ). m.answer)) (none_ seat.program rest)

rest_asks : (k : ℕ) (program : Program) → kind_in program ≡ None → (filter (λ (j : ℕ). j == k) (asked_link program) ≡ []) × (filter (λ (j : ℕ). j == k) (taken_link program) ≡ [])
rest_asks k Rest rest = (refl, refl)
rest_asks k (Say o outcome next) rest = (refl, refl)
rest_asks k (Sent o next) rest = (refl, refl)
rest_asks k (Keep r next) rest = (refl, refl)
rest_asks k (Retries requests after) rest = (refl, refl)
rest_asks k _ rest = absurd (none-some _ (sym rest))

-- so nothing is heard of a link
pub rest_heard : (c : Core) (m : Moment) → IsAtRest c m.seat → (k : ℕ) → heard_at c m k ≡ []
rest_heard c m rest k = asks_no_half (λ program. filter (λ (j : ℕ). j == k) (asked_link program)) (λ program none_. (rest_asks k program none_).0) c m rest

pub rest_taken : (c : Core) (m : Moment) → IsAtRest c m.seat → (k : ℕ) → taken_at c m k ≡ []
rest_taken c m rest k = asks_no_half (λ program. filter (λ (j : ℕ). j == k) (taken_link program)) (λ program none_. (rest_asks k program none_).1) c m rest

-- nor do so many of them
module _ (p : Plan) (c : Core) (i : ℕ) (rest : IsAtRest c i) where
  pub rests_on : (n : ℕ) → run p c (replicate n (quiet i)) ≡ c
  rests_on zero = refl
  rests_on (suc n) = ap (λ (d : Core). run p d (replicate n (quiet i))) (rests p c (quiet i) rest) ∙ rests_on n

  pub rests_heard : (n k : ℕ) → heard_in p c (replicate n (quiet i)) k ≡ []
  rests_heard zero k = refl
  rests_heard (suc n) k = ap (λ (l : List Answer). l ++ heard_in p (ticked p c (quiet i)) (replicate n (quiet i)) k) (rest_heard c (quiet i) rest k)
      ∙ ap (λ (d : Core). heard_in p d (replicate n (quiet i)) k) (rests p c (quiet i) rest) ∙ rests_heard n k

  pub rests_taken : (n k : ℕ) → taken_in p c (replicate n (quiet i)) k ≡ []
  rests_taken zero k = refl
  rests_taken (suc n) k = ap (λ (l : List Answer). l ++ taken_in p (ticked p c (quiet i)) (replicate n (quiet i)) k) (rest_taken c (quiet i) rest k)
      ∙ ap (λ (d : Core). taken_in p d (replicate n (quiet i)) k) (rests p c (quiet i) rest) ∙ rests_taken n k

  -- nor puts it anything
  rest_shaped : (k : ℕ) (shape : Shape) (so_far : List Answer) (answer : Answer) (program : Program) → kind_in program ≡ None → ShapedAt p k shape so_far c answer (first_step program)
  rest_shaped k shape so_far answer Rest none_ = tt
  rest_shaped k shape so_far answer (Say o outcome next) none_ = tt
  rest_shaped k shape so_far answer (Sent o next) none_ = tt
  rest_shaped k shape so_far answer (Keep r next) none_ = tt
  rest_shaped k shape so_far answer (Retries requests after) none_ = tt
  rest_shaped k shape so_far answer _ none_ = absurd (none-some _ (sym none_))

  pub rests_shaped : (k : ℕ) (shape : Shape) (n : ℕ) (so_far : List Answer) → AreShaped p k shape so_far c (replicate n (quiet i))
  rests_shaped k shape zero so_far = tt
  rests_shaped k shape (suc n) so_far = (
    λ seat at. rest_shaped k shape so_far Unasked seat.program (ap (λ (o : Option SeatState). elim o as (λ o. std.Option Kind) [ none ↦ None | some s ↦ kind_in s.program ]) (sym at) ∙ rest),
    subst (λ (d : Core). AreShaped p k shape (so_far ++ heard_at c (quiet i) k) d (replicate n (quiet i))) (sym (rests p c (quiet i) rest)) (rests_shaped k shape n (so_far ++ heard_at c (quiet i) k)),
  )

  pub rests_answered : (n : ℕ) → AreAnswered p c (replicate n (quiet i))
  rests_answered zero = tt
  rests_answered (suc n) = (rest_answered c i rest, subst (λ (d : Core). AreAnswered p d (replicate n (quiet i))) (sym (rests p c (quiet i) rest)) (rests_answered n))

pub seats_quiet : (n i : ℕ) → seats_of (replicate n (quiet i)) ≡ replicate n i
seats_quiet zero i = refl
seats_quiet (suc n) i = ap (λ (is : List ℕ). i ∷ is) (seats_quiet n i)

pub quiet_prompt : (n i : ℕ) → AllByRecursion IsAlwaysReady (replicate n (quiet i))
quiet_prompt zero i = tt
quiet_prompt (suc n) i = (λ e. absurd (cc), quiet_prompt n i)

pub quiet_broken : (p : Plan) (c : Core) (n i : ℕ) → broken_in p c (replicate n (quiet i)) ≡ []
quiet_broken p c zero i = refl
quiet_broken p c (suc n) i = quiet_broken p (ticked p c (quiet i)) n i

follows_rest : (m : MachineState) (took : Taken) (gave : Given) (i n : ℕ) → Agrees m.links took → AgreesGave m.links gave → IsAtRest (core_with m took gave) i → Follows m m took gave (replicate n (quiet i))
follows_rest m took gave i n agrees agrees_gave rest = record {
  answered = rests_answered m.plan (core_with m took gave) i rest n;
  always_ready = λ h. quiet_prompt n i;
  closes = λ h. quiet_closes m.plan (core_with m took gave) n i;
  offers = λ k serve end h. (quiet_offers m.plan k serve end (core_with m took gave) n i, h);
  shapes = λ k shape so_far h. (
    rests_shaped m.plan (core_with m took gave) i rest k shape n so_far,
    subst (IsShapedSo m.links k shape) (sym (ap (λ (l : List Answer). so_far ++ l) (rests_heard m.plan (core_with m took gave) i rest n k) ∙ append-nil so_far)) h,
  );
  so_far = record { took = took; gave = gave; agrees = agrees; agrees_gave = agrees_gave };
  core = sym (rests_on m.plan (core_with m took gave) i rest n);
  shows = shows_none m m refl (quiet_broken m.plan (core_with m took gave) n i) (rests_heard m.plan (core_with m took gave) i rest n) (rests_taken m.plan (core_with m took gave) i rest n);
}

-- more ticks of a seat that has no step left leave all as it is
pub ran_rest : (m : MachineState) (i : ℕ) → ((took : Taken) (gave : Given) → IsAtRest (core_with m took gave) i) → (n : ℕ) → Ran m m (replicate n i)
ran_rest m i rest n = (
  same_table_none m,
  same_links_none m,
  λ took gave agrees agrees_gave. record { moments = replicate n (quiet i); is = seats_quiet n i; follows = follows_rest m took gave i n agrees agrees_gave (rest took gave) },
)

pub ran_idle : (a b : MachineState) (seats : List ℕ) (i : ℕ) → Ran a b seats → ((took : Taken) (gave : Given) → IsAtRest (core_with b took gave) i) → (n : ℕ) → Ran a b (seats ++ replicate n i)
ran_idle a b seats i r rest n = ran_join a b b seats (replicate n i) r (ran_rest b i rest n)

-- ## A tick that was idle

-- what a seat has still to do doesn't depend on what the links took
programs_on : (xs ys : List SeatState) → map (λ (s : SeatState). s.program) (xs ++ ys) ≡ map (λ (s : SeatState). s.program) xs ++ map (λ (s : SeatState). s.program) ys
programs_on [] ys = refl
programs_on (x ∷ xs) ys = ap (λ (ps : List Program). x.program ∷ ps) (programs_on xs ys)

client_programs : (p : Plan) (links : LinksData) (t u : Taken) (sizes : Sizes) (i : ℕ) (seats : List SeatData) → map (λ (s : SeatState). s.program) (clients_with p links t sizes i seats) ≡ map (λ (s : SeatState). s.program) (clients_with p links u sizes i seats)
client_programs p links t u sizes i [] = refl
client_programs p links t u sizes i (seat ∷ seats) = ap (λ (ps : List Program). seat_program sizes seat ∷ ps) (client_programs p links t u sizes (i + 1) seats)

reader_programs : (p : Plan) (links : LinksData) (t u : Taken) (calls : List ℕ) (i : ℕ) (readers : List ReaderData) → map (λ (s : SeatState). s.program) (readers_with p links t calls i readers) ≡ map (λ (s : SeatState). s.program) (readers_with p links u calls i readers)
reader_programs p links t u calls i [] = refl
reader_programs p links t u calls i (r ∷ rs) = ap (λ (ps : List Program). reader_program calls r ∷ ps) (reader_programs p links t u calls (i + 1) rs)

programs_with : (m : MachineState) (t u : Taken) → map (λ (s : SeatState). s.program) (seats_with m t) ≡ map (λ (s : SeatState). s.program) (seats_with m u)
programs_with m t u =
    let gap : List SeatState = replicate (between m.seats) resting in
    programs_on (clients_with m.plan m.links t (machine_sizes m) 0 m.seats) _ ∙ ap₂ (λ (ps qs : List Program). ps ++ qs) (client_programs m.plan m.links t u (machine_sizes m) 0 m.seats)
    (programs_on gap _ ∙ ap (λ (qs : List Program). map (λ (s : SeatState). s.program) gap ++ qs) (reader_programs m.plan m.links t u m.calls READERS m.readers) ∙ sym (programs_on gap _))
    ∙ sym (programs_on (clients_with m.plan m.links u (machine_sizes m) 0 m.seats) _)

kind_at : (xs : List SeatState) (i : ℕ) → elim (get_elem? xs i) as (λ o. std.Option Kind) [ none ↦ None | some s ↦ kind_in s.program ] ≡ elim (get_elem? (map (λ (s : SeatState). s.program) xs) i) as (λ o. std.Option Kind) [ none ↦ None | some program ↦ kind_in program ]
kind_at [] i = refl
kind_at (x ∷ xs) zero = refl
kind_at (x ∷ xs) (suc i) = kind_at xs i

pub rest_anyhow : (m : MachineState) (t u : Taken) (g h : Given) (i : ℕ) → IsAtRest (core_with m t g) i → IsAtRest (core_with m u h) i
rest_anyhow m t u g h i rest = kind_at (seats_with m u) i
    ∙ ap (λ (ps : List Program). elim (get_elem? ps i) as (λ o. std.Option Kind) [ none ↦ None | some program ↦ kind_in program ]) (programs_with m u t)
    ∙ sym (kind_at (seats_with m t) i) ∙ rest

-- the links took and gave something
abbrev taken_from : Option OutState → List ℕ
taken_from none = []
taken_from (some out) = unwrap_or out.took []

told_took : (o : std.Option (List ℕ)) → IfSome o (λ (bytes : List ℕ). bytes ≡ unwrap_or o [])
told_took None = tt
told_took (Some bytes) = refl

pub some_taken : (links : LinksData) → (took : Taken) × Agrees links took
some_taken links = (λ k. taken_from (get_elem? links.outs k), λ k out at. subst (λ (q : Option OutState). IfSome out.took (λ (bytes : List ℕ). bytes ≡ taken_from q)) (sym at) (told_took out.took))
