-- What the tests hand out of a new table, and seats between their calls.
use Rattle.std.proofs.Common.{◌≡◌, ℕ, ◌+◌, ◌<◌, List, [], ◌∷◌, ◌++◌, refl, sym, ap, ◌∙◌, subst, arith, IfSome, Option, Some, None, option_to_list}
use Rattle.atomic_table.specs.Seated.{TableId}
use Rattle.atomic_table.specs.Table.{Me}
use Rattle.atomic_table.specs.declared.shared.Seat.{Seat}
use Rattle.sock_io.specs.declared.link.Out.{Ghosts}
use Rattle.sock_words.specs.declared.socket_id.SocketId.{SocketId}
use Rattle.sock_words.specs.declared.plain.Plan.{Plan}
use Rattle.sock_words.specs.PackedWords.{socket_id_version, socket_id_slot}
use Rattle.sock_model.specs.declared.marks.Mark.{Mark}
use Rattle.sock_model.specs.declared.marks.SlotMark.{SlotMark}
use Rattle.sock_model.specs.declared.view.View.{View}
use Rattle.sock_model.specs.MarkWeights.{is_ref, is_known}
use Rattle.sock_table.specs.slot_steps.proofs.SlotWeightSums.{total-append}
use Rattle.sock_rule.specs.MarksComeAndGo.{Became}
use Rattle.sock_rule.proofs.MarksComeAndGo.{then_}
use Rattle.sock_rule.specs.NotesBesideRows.{PutAt}
use Rattle.sock_rule.specs.SocketSeatSplits.{IsSeat}
use Rattle.sock_table.specs.NamesStoredAndFound.{Found}
use Rattle.sock_table.specs.declared.passes.LinkPass.{LinkPass}
use Rattle.sock_table.specs.LinkPasses.{IsPass}
use Rattle.sock_table.specs.ReferenceCalls.{IsBetween, SameTokens, Knows}
use Rattle.sock_table.specs.ReferenceAnswers.{LinkOf}
use Rattle.sock_table.specs.ClosedSocketTable.{AllDone, IsDoneSeat}
use Rattle.sock_open.specs.NewTableContents.{IsNewSeat, AreNewSeats, PassesFrom}
use Rattle.sock_open.proofs.SeatsHoldingNothing.{done_between, kept_done}
use Rattle.sock_open.proofs.SeatsOfNewTable.{new_view}
use Rattle.sock_words.specs.Totals.{total}

-- the link that was found is a note, and no reference
pub linked_notes : (p : Plan) (k id : ℕ) (v w : View) → LinkOf p k id v w → (adds : List Mark) × (total is_ref adds ≡ 0) × Became (socket_id_slot id) v w adds []
linked_notes p k id v w l = (_, refl, l.became)

-- notes behind notes
pub then_notes : (id : ℕ) (u v w : View) → (adds : List Mark) × (total is_ref adds ≡ 0) × Became (socket_id_slot id) u v adds [] → (more : List Mark) × (total is_ref more ≡ 0) × Became (socket_id_slot id) v w more [] → (all : List Mark) × (total is_ref all ≡ 0) × Became (socket_id_slot id) u w all []
then_notes id u v w a b = (a.0 ++ b.0, omega (arith, total-append is_ref a.0 b.0, a.1, b.1), then_ (socket_id_slot id) a.2 b.2)

-- what is known stays known where the marks are the same
pub known_same : (p : Plan) (id : ℕ) (v w : View) → w.marks ≡ v.marks → Knows p v id → Knows p w id
known_same p id v w e k = record { inside = k.inside; known = subst (λ (ms : List SlotMark). 0 < total (is_known (socket_id_version id)) (Rattle.sock_model.specs.Marks.about (socket_id_slot id) ms)) (sym e) k.known }

-- what was found under a name is known
pub told_known : (p : Plan) (n : ℕ) (r : Option SocketId) (v w : View) → Found p n r v w → IfSome r (λ i. Knows p w i.0)
told_known p n None v w f = tt
told_known p n (Some id) v w f = f.0

module _ {S : Type 0} (z : TableId) (p : Plan) where
  -- the last of the seats was taken
  pub popped : (ys : List (Seat S View)) (r : Option (Seat S View)) → AreNewSeats z p (ys ++ option_to_list r) → AreNewSeats z p ys × IfSome r (λ s. IsNewSeat z p s)
  popped [] None a = (tt, tt)
  popped [] (Some s) a = (tt, a.0)
  popped (y ∷ ys) r a = let q = popped ys r a.1 in ((a.0, q.0), q.1)

  pub new_share : (s : Seat S View) → IsNewSeat z p s → s.me.0.share ≡ 1
  new_share s n = ap (λ (v : View). v.share) (new_view z p s n)

  -- a word was stored
  pub stored_done : (x word : ℕ) (s t : Seat S View) → IsDoneSeat z p s → IsSeat z p t → PutAt x word s.me t.me → (IsBetween p s.me.0 → IsBetween p t.me.0) → SameTokens p s.me.0 t.me.0 → IsDoneSeat z p t
  stored_done x word s t d is view b same = kept_done z p s t d is (ap (λ (m : Me S View). m.1) view.view) (b (done_between z p s d)) same

  pub stored_known : (x word id : ℕ) (s t : Seat S View) → PutAt x word s.me t.me → Knows p s.me.0 id → Knows p t.me.0 id
  stored_known x word id s t view k = known_same p id s.me.0 t.me.0 (ap (λ (m : Me S View). m.0.marks) view.view) k

  pub three_done : (a b c : Seat S View) (xs : List (Seat S View)) → xs ≡ a ∷ b ∷ c ∷ [] → IsDoneSeat z p a → IsDoneSeat z p b → IsDoneSeat z p c → AllDone z p xs
  three_done a b c xs e x y w = subst (AllDone z p) (sym e) (x, (y, (w, tt)))

  pub three_share : (a b c : Seat S View) (xs : List (Seat S View)) → xs ≡ a ∷ b ∷ c ∷ [] → total (λ (s : Seat S View). s.me.0.share) xs ≡ a.me.0.share + (b.me.0.share + c.me.0.share)
  three_share a b c xs e = ap (total (λ (s : Seat S View). s.me.0.share)) e ∙ omega arith

module _ {O : Type 0} {g : Ghosts O} (z : TableId) (p : Plan) where
  pub pass_popped : (n : ℕ) (xs : List (LinkPass O g)) (r : Option (LinkPass O g)) → PassesFrom z p n (xs ++ option_to_list r) → PassesFrom z p n xs × IfSome r (λ x. IsPass z p x)
  pass_popped n [] None a = (tt, tt)
  pass_popped n [] (Some x) a = (tt, a.0)
  pass_popped n (x ∷ xs) r a = let q = pass_popped (n + 1) xs r a.2 in ((a.0, a.1, q.0), q.1)
