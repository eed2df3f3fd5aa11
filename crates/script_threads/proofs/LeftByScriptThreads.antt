-- What the clients of a script left, and the readers of its links, and the seat that took in all of theirs.
use Rattle.std.proofs.Common.{◌≡◌, ℕ, List, ◌∷◌, ◌++◌, map, length, sym, ap, ◌∙◌, subst}
use Rattle.std.specs.List.{flat_map, AllByRecursion}
use Rattle.brpc_model.specs.Items.{Item}
use Rattle.brpc_model.specs.ReturnedLink.{LinkEnd}
use Rattle.sock_io.specs.declared.link.Out.{Ghosts}
use Rattle.sock_io.specs.declared.link.Ends.{Ends}
use Rattle.sock_io.specs.LinkHalves.{OutState, InState, end_of}
use Rattle.sock_words.specs.declared.plain.Plan.{Plan}
use Rattle.sock_words.specs.declared.place_word.PlaceWord.{PlaceWord}
use Rattle.sock_words.specs.declared.vref.Vref.{Vref}
use Rattle.corr_core.specs.declared.marks.Plan as id_plan
use Rattle.seat_programs.specs.declared.task.Task.{Task}
use Rattle.seat_programs.specs.ScriptSetupToEnding.{all_tasks}
use Rattle.seat_programs.specs.Tasks.{plan_of, opens, calls}
use Rattle.rpc_client.specs.declared.acting.Told.{Told}
use Rattle.prpc_frame.specs.declared.frame.Frame.{Frame}
use Rattle.call_run.specs.ReadersOfLinks.{LinkReader, AreReaders}
use Rattle.call_run.specs.Threads.{ids_of, RanWith}
use Rattle.script_parts.specs.SeatsOfIdTable.{IdSeat}
use Rattle.script_parts.specs.ThreadScriptTold.{outcomes_of, IsReported}
use Rattle.script_threads.specs.ServedScriptTold.{seated_plan, seated_ids, HasEnded, IsLeftByThreads, HadGivenNone, IsThreadsRun}
use Rattle.script_threads.proofs.ListGathering.{flat_of}

module _ {O : Type 0} (g : Ghosts O) (out : O → OutState) (script : List Item) where
  abbrev pub left_is : (p : Plan) (slots : ℕ) (setup : List Task) (clients : List (List Task)) (os cs : List ℕ) (told ended read : List (List Told)) (kept : List (List Frame)) (places : List PlaceWord) (vrefs : List Vref) (outs : List O) (ids behind : List IdSeat) (readers : List (LinkReader g))
      → p ≡ seated_plan script → slots ≡ length (calls script) → os ≡ opens script → cs ≡ calls script → setup ∷ clients ≡ all_tasks script
      → RanWith g out readers p slots setup clients os told ended places vrefs outs (map (λ (s : IdSeat). s.me.0) ids) → AreReaders p (ids_of p slots) cs 0 os readers
      → map (λ (x : LinkReader g). x.ids) readers ≡ behind → map (λ (x : LinkReader g). x.books.told) readers ≡ read → map (λ (x : LinkReader g). x.books.early) readers ≡ kept
      → IsLeftByThreads g out script told ended read kept places ids behind
  left_is p slots setup clients os cs told ended read kept places vrefs outs ids behind readers ep es eo ec tasks ran are ids_are told_is kept_is = record {
    setup = setup;
    clients = clients;
    tasks = tasks;
    vrefs = vrefs;
    outs = outs;
    readers = readers;
    ran = subst (λ (l : List ℕ). RanWith g out readers (seated_plan script) (length (calls script)) setup clients l told ended places vrefs outs (map (λ (s : IdSeat). s.me.0) ids)) eo
        (subst (λ (n : ℕ). RanWith g out readers (seated_plan script) n setup clients os told ended places vrefs outs (map (λ (s : IdSeat). s.me.0) ids)) es
        (subst (λ (x : Plan). RanWith g out readers x slots setup clients os told ended places vrefs outs (map (λ (s : IdSeat). s.me.0) ids)) ep ran));
    readers_are = subst (λ (l : List ℕ). AreReaders (seated_plan script) (ids_of (seated_plan script) (length (calls script))) l 0 (opens script) readers) ec
        (subst (λ (l : List ℕ). AreReaders (seated_plan script) (ids_of (seated_plan script) (length (calls script))) cs 0 l readers) eo
        (subst (λ (n : ℕ). AreReaders (seated_plan script) (ids_of (seated_plan script) n) cs 0 os readers) es
        (subst (λ (x : Plan). AreReaders x (ids_of x slots) cs 0 os readers) ep are)));
    behind_is = ids_are;
    read_is = told_is;
    kept_is = kept_is;
  }

-- what was left of calls was ended, with all seats and all that was kept
pub ended_is : (script : List Item) (q : id_plan.Plan) (cs : List ℕ) (all seats behind : List IdSeat) (early : List Frame) (kept : List (List Frame)) (last : List Told) → q ≡ seated_ids script → cs ≡ calls script → all ≡ seats ++ behind → early ≡ flat_map (λ (fs : List Frame). fs) kept
    → HasEnded q cs all early last → HasEnded (seated_ids script) (calls script) (seats ++ behind) (flat_map (λ (fs : List Frame). fs) kept) last
ended_is script q cs all seats behind early kept last eq ec ea ek h =
    subst (λ (l : List Frame). HasEnded (seated_ids script) (calls script) (seats ++ behind) l last) ek
    (subst (λ (l : List IdSeat). HasEnded (seated_ids script) (calls script) l early last) ea
    (subst (λ (l : List ℕ). HasEnded (seated_ids script) l all early last) ec
    (subst (λ (x : id_plan.Plan). HasEnded x cs all early last) eq h)))

-- ## The one that took in all

module _ {O : Type 0} {g : Ghosts O} {out : O → OutState} {script : List Item} {told ended read : List (List Told)} {kept : List (List Frame)} {places : List PlaceWord} {seats behind : List IdSeat} (left : IsLeftByThreads g out script told ended read kept places seats behind) where
  abbrev pub all_seats : List IdSeat
  all_seats = seats ++ map (λ (x : LinkReader g). x.ids) left.readers

  -- the responses that are kept are those that the readers keep
  pub early_of : flat_map (λ (fs : List Frame). fs) kept ≡ flat_map (λ (x : LinkReader g). x.books.early) left.readers
  early_of = ap (flat_map (λ (fs : List Frame). fs)) (sym left.kept_is) ∙ flat_of (λ (x : LinkReader g). x.books.early) left.readers

  module _ {early : List Frame} {last : List Told} (rest : HasEnded (seated_ids script) (calls script) (seats ++ behind) early last) where
    -- it has what all noted and keep in mind
    pub notes_of : rest.main.me.0.notes ≡ flat_map (λ (s : IdSeat). s.me.0.notes) all_seats
    notes_of = rest.took.notes ∙ ap (λ (l : List IdSeat). flat_map (λ (s : IdSeat). s.me.0.notes) (seats ++ l)) (sym left.behind_is)

    pub kept_of : rest.main.me.0.kept ≡ flat_map (λ (s : IdSeat). s.me.0.kept) all_seats
    kept_of = rest.took.kept ∙ ap (λ (l : List IdSeat). flat_map (λ (s : IdSeat). s.me.0.kept) (seats ++ l)) (sym left.behind_is)

-- ## The run

-- links that were given back, and the report over them
pub run_is : (P : Type 0) {O I : Type 0} (g : Ghosts O) (out : O → OutState) (inn : I → InState) (script : List Item) (text : List ℕ) (links : List LinkEnd) (told ended read : List (List Told)) (kept : List (List Frame)) (places : List PlaceWord) (ids behind : List IdSeat)
    (left : IsLeftByThreads g out script told ended read kept places ids behind) (ends lent : List (Ends O I P)) (last : List Told) (n : ℕ) → n ≡ (plan_of script).operations → lent ≡ ends
    → map (λ (e : Ends O I P). e.out) ends ≡ left.outs → map (λ (x : LinkReader g). x.behind) left.readers ≡ map (λ (e : Ends O I P). inn e.inn) ends → AllByRecursion HadGivenNone left.readers
    → HasEnded (seated_ids script) (calls script) (ids ++ behind) (flat_map (λ (fs : List Frame). fs) kept) last → links ≡ map (λ (e : Ends O I P). end_of (out e.out) (inn e.inn)) ends
    → IsReported script text (outcomes_of n told (ended ++ read) last) places (map (λ (e : Ends O I P). end_of (out e.out) (inn e.inn)) lent) → IsThreadsRun P g out inn script text links
run_is P {O} {I} g out inn script text links told ended read kept places ids behind left ends lent last n many same halves halves_read unread rest given reported = record {
  told = told;
  ended = ended;
  read = read;
  kept = kept;
  places = places;
  ids = ids;
  behind = behind;
  left = left;
  ends = ends;
  halves = halves;
  halves_read = halves_read;
  unread = unread;
  last = last;
  rest = rest;
  given_back = given;
  reported = subst (IsReported script text (outcomes_of (plan_of script).operations told (ended ++ read) last) places) (sym given)
      (subst (λ (es : List (Ends O I P)). IsReported script text (outcomes_of (plan_of script).operations told (ended ++ read) last) places (map (λ (e : Ends O I P). end_of (out e.out) (inn e.inn)) es)) same
      (subst (λ (m : ℕ). IsReported script text (outcomes_of m told (ended ++ read) last) places (map (λ (e : Ends O I P). end_of (out e.out) (inn e.inn)) lent)) many reported));
}
