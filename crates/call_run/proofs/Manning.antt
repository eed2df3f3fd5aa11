-- Main's client and the others get what the new tables have.
use Rattle.std.proofs.Common.{◌≡◌, ℕ, ◌+◌, ◌-◌, ◌<◌, ◌≤◌, List, [], ◌∷◌, ◌++◌, length, reverse, map, take, drop, length-append, refl, sym, ap, ◌∙◌, subst, arith}
use Rattle.std.specs.Prelude.{All, Option}
use Rattle.std.proofs.lemmas.List.{length-reverse}
use Rattle.std.proofs.Math.Seq.{take-append_seam}
use Rattle.atomic_table.specs.Seated.{TableId}
use Rattle.atomic_table.specs.declared.shared.Seat.{Seat}
use Rattle.sock_io.specs.declared.link.Out.{Ghosts}
use Rattle.sock_words.specs.declared.plain.Plan.{Plan}
use Rattle.sock_model.specs.declared.view.View.{View}
use Rattle.sock_rule.specs.declared.homes.SockHome.{SockHome}
use Rattle.sock_table.specs.declared.passes.LinkPass.{LinkPass}
use Rattle.sock_table.specs.LinkPasses.{IsPass}
use Rattle.sock_open.specs.NewTableContents.{IsNewSeat, AreNewSeats, PassesFrom}
use Rattle.corr_core.specs.declared.marks.Plan as id_plan
use Rattle.corr_core.specs.declared.marks.View as id_view
use Rattle.corr_id.specs.IdTableOpening.{AreNew}
use Rattle.sock_message.specs.Asked.{Asked}
use Rattle.seat_programs.specs.declared.task.Task.{Task}
use Rattle.call_client.specs.rpc_client.specs.declared.acting.Told.{Told}
use Rattle.call_client.specs.ClientRun.{MayMakeAll}
use Rattle.call_run.specs.declared.opened.Opening.{Opening}
use Rattle.call_run.specs.declared.hiring.Room.{Room}
use Rattle.call_run.specs.Threads.{opens_of, opens_of_each, LinksDown, openings, opened_names, MayRunAll}
use Rattle.call_run.specs.Hired.{opens_of_all, HasRoom, IsNewId, MayHire}
use Rattle.call_run.proofs.Dealing.{all_split, down_split, down_of, seats_last, ids_last}
use Rattle.call_run.proofs.SetupNames.{names_fit}

module _ {O : Type 0} {g : Ghosts O} where
  opens_each : (rooms : List (Room O g)) → opens_of_each (map (λ (r : Room O g). r.tasks.items) rooms) ≡ opens_of_all rooms
  opens_each [] = refl
  opens_each (r ∷ rs) = omega (arith, opens_each rs)

  pub enough : (p : Plan) (q : id_plan.Plan) (setup : List Task) (rooms : List (Room O g)) (passes back : List (LinkPass O g)) → length passes ≡ p.links → MayRunAll p q setup (map (λ (r : Room O g). r.tasks.items) rooms) → back ≡ reverse passes → opens_of setup ≤ length back
  enough p q setup rooms passes back made may is = let a = ap length is ∙ length-reverse passes in let b = made in let d = may.links in omega arith

  -- what main's client has, and the others may have
  pub record Shared (z : TableId) (p : Plan) (y : TableId) (setup : List Task) (rooms : List (Room O g)) (left : List (Seat (SockHome O g) View)) (s : Seat (SockHome O g) View) (fewer_ids : List (Seat (Option Asked) (id_view.View Asked))) (i : Seat (Option Asked) (id_view.View Asked)) (fewer own : List (LinkPass O g)) : Type 0 where
    pub others : MayHire z p y rooms left fewer_ids fewer
    pub seat : IsNewSeat z p s
    pub id : IsNewId y i
    pub links : LinksDown 0 own
    pub passes : All (IsPass z p) own
    pub next : p.links - length fewer ≡ opens_of setup

  pub share : (z : TableId) (p : Plan) (y : TableId) (q : id_plan.Plan) (setup : List Task) (rooms : List (Room O g)) (dealt left : List (Seat (SockHome O g) View)) (s : Seat (SockHome O g) View) (ids fewer_ids : List (Seat (Option Asked) (id_view.View Asked))) (i : Seat (Option Asked) (id_view.View Asked)) (passes back fewer own : List (LinkPass O g))
      → AreNewSeats z p dealt → AreNew y ids → (length dealt ≡ length rooms + 1) × (length ids ≡ length rooms + 1) → PassesFrom z p 0 passes → length passes ≡ p.links → MayRunAll p q setup (map (λ (r : Room O g). r.tasks.items) rooms) → All HasRoom rooms → dealt ≡ left ++ s ∷ [] → ids ≡ fewer_ids ++ i ∷ [] → back ≡ reverse passes → All (IsPass z p) back → back ≡ fewer ++ own → length own ≡ opens_of setup
      → Shared z p y setup rooms left s fewer_ids i fewer own
  share z p y q setup rooms dealt left s ids fewer_ids i passes back fewer own news new many from made may has se ie is ok parts count =
      let down = down_split 0 fewer own (subst (LinksDown 0) parts (subst (LinksDown 0) (sym is) (down_of z p 0 passes from))) in
      let oks = all_split (IsPass z p) fewer own (subst (All (IsPass z p)) parts ok) in
      let ss = seats_last z p left s (subst (AreNewSeats z p) se news) in
      let ii = ids_last y fewer_ids i (subst (AreNew y) ie new) in
      let a = ap length is ∙ length-reverse passes in let b = ap length parts ∙ length-append fewer own in let d = made in let l = may.links in let o = opens_each rooms in
      let m = ap length se ∙ length-append left (s ∷ []) in let im = ap length ie ∙ length-append fewer_ids (i ∷ []) in let k = count in let n = many.0 in let j = many.1 in record {
        others = record {
          rooms_are = has;
          seats_are = ss.0;
          ids_are = ii.0;
          as_many = (omega arith, omega arith);
          few = omega arith;
          links = subst (λ (j : ℕ). LinksDown j fewer) (omega arith) down.0;
          passes_are = oks.0;
          count = omega arith;
        };
        seat = ss.1;
        id = ii.1;
        links = down.1;
        passes = oks.1;
        next = omega arith;
      }

-- a slice of all of a list that was lent
pub whole_lent : {A : Type 0} (xs ys : List A) (n : ℕ) → n ≡ length ys → length xs ≡ length ys → take n (xs ++ drop (length xs) ys) ≡ xs
whole_lent xs ys n e h = ap (λ (k : ℕ). take k (xs ++ drop (length xs) ys)) (e ∙ sym h) ∙ take-append_seam xs (drop (length xs) ys)

-- the names that were found opened are those of the table
pub fit_names : (p : Plan) (q : id_plan.Plan) (told : List Told) (os : List Opening) (setup : List Task) (names : List ℕ) (passes : ℕ) → names ≡ opened_names told os → os ≡ openings setup → MayMakeAll p q setup passes → All (λ (n : ℕ). n < p.names) names
fit_names p q told os setup names passes is same may = subst (All (λ (n : ℕ). n < p.names)) (sym (is ∙ ap (opened_names told) same)) (names_fit p q told setup passes may)
