-- C5 and P1 of a request whose generation is the last one: it isn't given back, so what comes behind C8 comes at once.
use Rattle.std.proofs.Common.{◌≡◌, ◌≢◌, ℕ, Bool, true, false, eqb, cond, not, eq-eqb, List, [], ◌∷◌, get_or, set, refl, sym, ap, ◌∙◌, subst}
use Rattle.std.specs.List.{filter}
use mathlib.Core.Option.{some}
use lib.ListN.{get_elem?}
use Rattle.atomic_table.specs.Table.{State}
use Rattle.sock_model.specs.sock_words.specs.declared.plain.Plan.{Plan}
use Rattle.sock_model.specs.declared.chain.Right.{Right}
use Rattle.sock_model.specs.declared.chain.Stage.TheVariants.{Placed}
use Rattle.sock_model.specs.declared.home.Home.{Home}
use Rattle.sock_model.specs.declared.view.View.{View}
use Rattle.sock_model.specs.SocketTableLayout.{next_index, place_index}
use Rattle.sock_model.specs.LinksInSlots.{Failed}
use Rattle.sock_model.specs.ChainRows.{with_right, passing_right, placed_right, dropped_right, freed_right}
use Rattle.sock_model.specs.ChainStepConditions.{HasRight, MayPlace, MayDrop}
use Rattle.sock_model.specs.LawfulSockets.{Lawful}
use Rattle.chain_steps.proofs.TicketLists.{at_length}
use Rattle.chain_steps.proofs.Frees.{Leads, to_end, to_next}
use Rattle.sock_steps.proofs.Maps.{set_at, set_twice}
use Rattle.sock_steps.proofs.WalkSteps.{passing_law}
use Rattle.sock_steps.proofs.WriteSteps.{retiring_law, placing_law, dropping_law}
use Rattle.sock_model.specs.sock_words.specs.PackedWords.{ticket_request, ticket_generation, place_word}

-- a list from which the same is taken out twice
filter_one : (f : Right → Bool) (x : Right) (l : List Right) → filter f l ≡ l → (b : Bool) → f x ≡ b → filter f (cond b (x ∷ l) l) ≡ cond b (x ∷ l) l
filter_one f x l h true e = ap (λ b. cond b (x ∷ filter f l) (filter f l)) e ∙ ap (λ y. x ∷ y) h
filter_one f x l h false e = h

filter_twice : (f : Right → Bool) (l : List Right) → filter f (filter f l) ≡ filter f l
filter_twice f [] = refl
filter_twice f (x ∷ xs) = filter_one f x (filter f xs) (filter_twice f xs) (f x) refl

other_link : ℕ → Right → Bool
other_link k x = not (eqb x.link k)

-- a right that takes the place of another for the same link
right_twice : (v : View) (a b : Right) → b.link ≡ a.link → with_right (with_right v a) b ≡ with_right v b
unfolding other_link
right_twice v a b same = let gone : not (eqb a.link b.link) ≡ false = ap not (eq-eqb a.link b.link (sym same)) in
    ap (λ l. record v { rights = b ∷ l })
    (ap (λ t. cond t (a ∷ filter (other_link b.link) (filter (other_link a.link) v.rights)) (filter (other_link b.link) (filter (other_link a.link) v.rights))) gone
    ∙ (ap (λ k. filter (other_link b.link) (filter (other_link k) v.rights)) (sym same) ∙ filter_twice (other_link b.link) v.rights))

-- the right goes on where it stood behind the entry `now`
module _ {S : Type 0} (shows : S → Home) (p : Plan) (id now : ℕ) (v : View) (a : Right) (s : State S View) (here : get_elem? s.views id ≡ some v) (leads : Leads a.last a.stage now (freed_right a).stage) (last : ticket_generation now ≡ 140737488355327) where
  goes_on : (ws : List ℕ) → Lawful shows p record { words = ws; homes = s.homes; views = set s.views id (with_right v a) } → Lawful shows p record { words = ws; homes = s.homes; views = set s.views id (with_right v (freed_right a)) }
  goes_on ws o = subst (λ vs. Lawful shows p record { words = ws; homes = s.homes; views = vs })
      (set_twice s.views id (with_right v a) (with_right (with_right v a) (freed_right a)) ∙ ap (λ w. set s.views id w) (right_twice v a (freed_right a) refl))
      (retiring_law shows p id 0 now (freed_right a).stage (with_right v a) a record { words = ws; homes = s.homes; views = set s.views id (with_right v a) } o (set_at s.views id (with_right v a) (at_length s.views id v here)) refl leads last)

-- C5, of an entry that isn't the last one noted
pub passing_last_law : {S : Type 0} (shows : S → Home) (p : Plan) (id : ℕ) (v : View) (x : HasRight v) (s : State S View) (o : Lawful shows p s) → get_elem? s.views id ≡ some v → (now : ℕ) → x.right.stage ≡ Placed now → now ≢ x.right.last → ticket_generation now ≡ 140737488355327
    → Lawful shows p record { words = s.words; homes = s.homes; views = set s.views id (with_right v (freed_right (passing_right x.right now (get_or s.words (next_index p (ticket_request now)) 0)))) }
passing_last_law shows p id v x s o here now stage ne last =
    goes_on shows p id now v (passing_right x.right now (get_or s.words (next_index p (ticket_request now)) 0)) s here (to_next now (get_or s.words (next_index p (ticket_request now)) 0)) last s.words (passing_law shows p s o id v here x now stage ne)

-- P1, of the last entry noted
pub placing_last_law : {S : Type 0} (shows : S → Home) (p : Plan) (id : ℕ) (v : View) (x : MayPlace p v) (s : State S View) (o : Lawful shows p s) → get_elem? s.views id ≡ some v → x.now ≡ x.mine.right.last → ticket_generation x.now ≡ 140737488355327
    → Lawful shows p record { words = set s.words (place_index p x.mine.right.heading.label.place) (place_word false x.mine.right.link x.mine.right.places); homes = s.homes; views = set s.views id (with_right v (freed_right (placed_right x.mine.right x.now))) }
placing_last_law shows p id v x s o here at_last last =
    goes_on shows p id x.now v (placed_right x.mine.right x.now) s here (to_end x.now at_last) last (set s.words (place_index p x.mine.right.heading.label.place) (place_word false x.mine.right.link x.mine.right.places)) (placing_law shows p id v x s o here)

-- P1 with the dropped bit, of the last entry noted
pub dropping_last_law : {S : Type 0} (shows : S → Home) (p : Plan) (id : ℕ) (v : View) (x : MayDrop p v) (s : State S View) (o : Lawful shows p s) → get_elem? s.views id ≡ some v → Failed p s x.mine.right.link → x.now ≡ x.mine.right.last → ticket_generation x.now ≡ 140737488355327
    → Lawful shows p record { words = set s.words (place_index p x.mine.right.heading.label.place) (place_word true x.mine.right.link x.mine.right.places); homes = s.homes; views = set s.views id (with_right v (freed_right (dropped_right x.mine.right x.now x.sent))) }
dropping_last_law shows p id v x s o here dead at_last last =
    goes_on shows p id x.now v (dropped_right x.mine.right x.now x.sent) s here (to_end x.now at_last) last (set s.words (place_index p x.mine.right.heading.label.place) (place_word true x.mine.right.link x.mine.right.places)) (dropping_law shows p id v x s o here dead)
