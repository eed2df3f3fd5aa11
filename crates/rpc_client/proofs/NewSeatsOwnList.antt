-- What a new seat has, and what its own list has behind a message.
use Rattle.std.proofs.Common.{◌≡◌, ℕ, ◌+◌, ◌<◌, Option, Some, None, inl, inr, List, [], ◌∷◌, ◌++◌, length-append, refl, sym, ap, ◌∙◌, subst, arith}
use Rattle.atomic_table.specs.Seated.{TableId}
use Rattle.atomic_table.specs.declared.shared.Seat.{Seat}
use Rattle.sock_io.specs.declared.link.Out.{Ghosts}
use Rattle.sock_io.specs.LinkHalves.{OutState}
use Rattle.sock_words.specs.declared.plain.Plan.{Plan}
use Rattle.sock_words.specs.declared.outcome.Outcome.{Outcome}
use Rattle.sock_words.specs.declared.outcome.Outcome.TheVariants as outcome
use Rattle.sock_words.specs.PackedWords.{socket_id_slot}
use Rattle.sock_model.specs.declared.chain.Entry.{Entry}
use Rattle.sock_model.specs.declared.view.View.{View}
use Rattle.sock_model.specs.ChainRows.{more}
use Rattle.sock_model.specs.SlotRows.{marks_of}
use Rattle.sock_model.specs.MarkWeights.{is_ref}
use Rattle.sock_rule.specs.declared.homes.Letter.{Letter}
use Rattle.sock_table.specs.declared.refs.SockRef.{SockRef}
use Rattle.rpc_client.specs.declared.holding.Held.{Held}
use Rattle.rpc_client.specs.declared.reaching.Reached.TheVariants.{Here}
use Rattle.rpc_client.specs.SeatBetweenOperations.{Idle, MayAct}
use Rattle.rpc_client.specs.ReachingByName.{ReachedBy}
use Rattle.rpc_client.specs.HoldAndDropOutcomes.{IsHolder}
use Rattle.std.specs.Prelude.{All}
use Rattle.std.proofs.lemmas.List.Elements.{All-nil, All-cons}
use Rattle.sock_table.specs.LinkPasses.{IsPass}
use Rattle.write_chain.specs.sock_open.specs.NewTableContents.{IsNewSeat, PassesFrom}
use Rattle.sock_table.specs.declared.passes.LinkPass.{LinkPass}
use Rattle.write_chain.specs.sock_open.proofs.SeatsOfNewTable.{new_view, new_is_seat, new_between}
use Rattle.rpc_client.specs.SendingOutcomes.{SentBy}
use Rattle.rpc_client.specs.AcceptedClientMessages.{OwnList}
use Rattle.rpc_client.proofs.SeatBehindDelivering.{came_lists}

here_lists : (p : Plan) (n : ℕ) (sock : SockRef) (v w : View) → ReachedBy p n (Here sock) v w → w.lists ≡ v.lists
here_lists p n sock v w r = ap (λ (y : View). y.lists) r.2.others ∙ ap (λ (y : View). y.lists) r.1.1.view

own_same : (n : ℕ) (v w : View) → w.lists ≡ v.lists → OwnList n v → OwnList (n + 1) w
own_same n v w e o = record { made = o.made; taken_in = o.taken_in; lists = e ∙ o.lists; few = (let a = o.few in omega arith) }

own_more : (n : ℕ) (v w : View) (e : Entry) → w.lists ≡ more v.lists e → OwnList n v → OwnList (n + 1) w
own_more n v w e is o = record { made = o.made ++ e ∷ []; taken_in = o.taken_in; lists = is ∙ ap (λ l. more l e) o.lists; few = (let a = o.few in let b = length-append o.made (e ∷ []) in omega arith) }

module _ {O : Type 0} (state : O → OutState) (p : Plan) (k : ℕ) (msg : Letter) where
  gone_lists : (found : Rattle.sock_words.specs.declared.vref.Vref.Vref) (v w : View) → ReachedBy p k (Rattle.rpc_client.specs.declared.reaching.Reached.TheVariants.Gone found) v w → w.lists ≡ v.lists
  gone_lists found v w r = ap (λ (y : View). y.lists) r.3.became.others ∙ ap (λ (y : View). y.lists) r.2.1.view

  -- at most one more message is in its own list
  pub sent_own : (n : ℕ) (o : Option Outcome) (v w : View) → OwnList n v → SentBy state p k msg o v w → OwnList (n + 1) w
  sent_own n None v w own s = let out = s.delivered in own_more n v w out.accepted.entry
      (ap (λ (y : View). y.lists) out.through.returned.back.became.others ∙ (ap (λ (y : View). y.lists) out.through.by.became.others ∙ (out.accepted.lists ∙ ap (λ l. more l out.accepted.entry) (here_lists p k s.sock v s.has s.reached_it)))) own
  sent_own n (Some outcome.Unopened) v w own s = own_same n v w (ap (λ (y : View). y.lists) s.0) own
  sent_own n (Some (outcome.Gone found)) v w own s = elim s [ inl r ↦ own_same n v w (gone_lists found v w r) own | inr d ↦ own_same n v w (came_lists p d.sock msg _ d.has w d.delivered ∙ here_lists p k d.sock v d.has d.reached_it) own ]
  sent_own n (Some outcome.Full) v w own s = own_same n v w (came_lists p s.sock msg _ s.has w s.delivered ∙ here_lists p k s.sock v s.has s.reached_it) own
  sent_own n (Some _) v w own s = elim s [ ]

-- ## A new seat

module _ {S : Type 0} (z : TableId) (p : Plan) (s : Seat S View) (new : IsNewSeat z p s) where
  -- it has nothing
  pub new_idle : Idle z p s
  new_idle = let v = new_view z p s new in record { seat = new_is_seat z p s new; slots = ap (λ m. m.1) new.me; between = new_between z p s new; claims = ap (λ (y : View). y.claims) v; loose = ap (λ (y : View). y.loose) v }

  pub new_holder : IsHolder p [] s.me.0
  new_holder = subst (λ (y : View). IsHolder p [] y) (sym (new_view z p s new)) record { refs = λ i. refl; lives = λ i h. refl; inside = All-nil (λ (x : Held). socket_id_slot x.id.0 < p.slots) }

  pub new_own : OwnList 0 s.me.0
  new_own = record { made = []; taken_in = []; lists = ap (λ (y : View). y.lists) (new_view z p s new); few = omega arith }

  -- so it may act
  pub new_may : MayAct z p s
  new_may = record { idle = new_idle; room = λ i il. (let none_ : marks_of is_ref i s.me.0 ≡ 0 = new_holder.refs i in omega arith) }

-- the passes of a new table
pub passes_all : {O : Type 0} {g : Ghosts O} (z : TableId) (p : Plan) (n : ℕ) (xs : List (LinkPass O g)) → PassesFrom z p n xs → All (IsPass z p) xs
passes_all z p n [] a = All-nil (IsPass z p)
passes_all z p n (x ∷ xs) a = All-cons (IsPass z p) x xs a.0 (passes_all z p (n + 1) xs a.2)
