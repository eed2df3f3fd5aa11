-- What a step leaves of what the views keep beside the rule of the sockets.
use Rattle.std.proofs.Common.{◌≡◌, ℕ, ◌+◌, ◌*◌, ◌<◌, ◌≤◌, List, length, length-set, set, sym, ap, ◌∙◌, subst, ⊎_elim, arith}
use mathlib.Core.Option.{Option, some}
use lib.ListN.{get_elem?}
use Rattle.atomic_table.specs.Table.{State}
use Rattle.atomic_table.proofs.Lists.{at_set, set_else}
use Rattle.sock_words.specs.declared.plain.Plan.{Plan}
use Rattle.sock_model.specs.declared.home.Home.{Home}
use Rattle.sock_model.specs.declared.view.View.{View}
use Rattle.sock_model.specs.declared.view.StoredWord.{StoredWord}
use Rattle.sock_model.specs.declared.chain.Entry.{Entry}
use Rattle.sock_model.specs.declared.chain.Heading.{Heading}
use Rattle.sock_model.specs.SocketTableLayout.{place_index}
use Rattle.sock_model.specs.ChainLawReads.{hands_of}
use Rattle.sock_model.specs.Rule.{lists_of, Rule}
use Rattle.chain_core.specs.slot_steps.proofs.SlotWeightSums.{total-set}
use Rattle.chain_core.specs.chain_steps.proofs.TicketLists.{at_length}
use Rattle.chain_core.specs.sock_steps.proofs.Maps.{set_at, set_twice}
use Rattle.sock_rule.specs.LinkFaultNotes.{faults_of, out_of, LinkFaults}
use Rattle.sock_rule.specs.OnTable.{share_of, put_in, is_labelled, labelled_in, is_headed, headed_in, IsDropKept, Settled, Labelled, OnTable}
use Rattle.sock_rule.proofs.Light.{Alike, light_rule}
use Rattle.sock_rule.proofs.LinkFaultNotes.{calm}
use Rattle.sock_words.specs.Totals.{total}

-- the step leaves the seat's share, its number of lists, what it found, met and dropped, and what it stored
pub record SameShare (p : Plan) (v w : View) : Type 0 where
  pub share : w.share ≡ v.share
  pub lists : lists_of w ≡ lists_of v
  pub finds : ◌≡◌ {A = List StoredWord × (List (List StoredWord) × List Heading)} (w.finds, (w.histories, w.drops)) (v.finds, (v.histories, v.drops))
  pub stores : (x y : ℕ) → put_in x y w ≡ put_in x y v
  -- no accepted message goes
  pub accepts : (f : Entry → ℕ) → total (total f) v.lists ≤ total (total f) w.lists
  pub labels : Labelled p v → Labelled p w

-- and what it noted of faults and ends, and which links it has in hand
pub record Calm (v w : View) : Type 0 where
  pub faults : (k : ℕ) → faults_of k w ≡ faults_of k v
  pub outs : (k : ℕ) → out_of k w ≡ out_of k v
  pub hands : (k : ℕ) → hands_of k w ≡ hands_of k v

-- the homes of links stay
abbrev pub StillHomes : {S : Type 0} → Plan → List (Option S) → List (Option S) → Type 0
StillHomes p hs gs = (length gs ≡ length hs) × ((k : ℕ) → k < p.links → get_elem? gs (p.requests + k) ≡ get_elem? hs (p.requests + k))

-- where the home of a request changes
pub homes_else : {S : Type 0} (p : Plan) (hs : List (Option S)) (r : ℕ) (x : Option S) → r < p.requests → StillHomes p hs (set hs r x)
homes_else p hs r x low = (length-set hs r x, λ k kl. set_else hs r (p.requests + k) x (λ e. omega arith))

-- a note that no law weighs changes nothing of that
pub alike_share : (p : Plan) (v u w : View) → SameShare p v u → Alike u w → SameShare p v w
alike_share p v u w same a = record {
  share = ap (λ (z : View). z.share) a.others ∙ same.share;
  lists = ap lists_of a.others ∙ same.lists;
  finds = ap (λ (z : View). (z.finds, (z.histories, z.drops))) a.others ∙ same.finds;
  stores = λ x y. ap (put_in x y) a.others ∙ same.stores x y;
  accepts = λ f. omega (arith, ap (λ (z : View). total (total f) z.lists) a.others, same.accepts f);
  labels = λ h. subst (Labelled p) (sym a.others) (let q = same.labels h in record { entries = q.entries; claimed = q.claimed });
}

pub light_after : {S : Type 0} (shows : S → Home) (p : Plan) (s : State S View) (id : ℕ) (v u w : View) → get_elem? s.views id ≡ some v → (ws : List ℕ) (hs : List (Option S)) → Alike u w → u.plan ≡ p
    → Rule shows p record { words = ws; homes = hs; views = set s.views id u } → Rule shows p record { words = ws; homes = hs; views = set s.views id w }
light_after shows p s id v u w here ws hs a mine r = subst (λ vs. Rule shows p record { words = ws; homes = hs; views = vs }) (set_twice s.views id u w)
    (light_rule shows p record { words = ws; homes = hs; views = set s.views id u } id u w (set_at s.views id u (at_length s.views id v here)) a r mine)

-- what was noted of a place index stays where no view loses a note or an accepted message
pub drop_stays : (p : Plan) (old new : List View) (l word : ℕ) → ((n : ℕ) → total (put_in (place_index p l) n) old ≡ total (put_in (place_index p l) n) new) → total (labelled_in l) old ≤ total (labelled_in l) new → IsDropKept p old l word → IsDropKept p new l word
drop_stays p old new l word same more k = record {
  told = λ high. omega (arith, k.told high, same word);
  stays = λ one n some_. k.stays (omega arith) n (omega (arith, same n));
}

module _ {S : Type 0} {shows : S → Home} {rose : S → ℕ} {p : Plan} {s : State S View} (t : OnTable shows rose p s) (id : ℕ) (v w : View) (here : get_elem? s.views id ≡ some v) (some_ : 0 < v.share) (ws : List ℕ) (hs : List (Option S)) where
  -- what a seat found stays stored
  still_put : ((x y : ℕ) → put_in x y w ≡ put_in x y v) → (x y : ℕ) → total (put_in x y) s.views ≡ total (put_in x y) (set s.views id w)
  still_put more x y = omega (arith, total-set (put_in x y) s.views id v w here, more x y)

  -- and what was accepted stays accepted
  still_headed : ((f : Entry → ℕ) → total (total f) v.lists ≤ total (total f) w.lists) → (h : Heading) → total (headed_in h) s.views ≤ total (headed_in h) (set s.views id w)
  still_headed more h = omega (arith, total-set (headed_in h) s.views id v w here, more (is_headed h))

  -- where place words change, what was noted of each place index is given
  pub beside_placed : (placed : ℕ → ℕ) → ((l : ℕ) → l < 8 * p.operations → IsDropKept p (set s.views id w) l (placed l)) → ((k : ℕ) → k < p.links → LinkFaults shows rose p record { words = ws; homes = hs; views = set s.views id w } k) → length hs ≡ length s.homes → SameShare p v w → Settled p t.stored placed ws hs → Rule shows p record { words = ws; homes = hs; views = set s.views id w } → OnTable shows rose p record { words = ws; homes = hs; views = set s.views id w }
  beside_placed placed drops faults long same kept r = record {
    rule = r;
    housed = long ∙ t.housed;
    shares = (let a = t.shares in omega (arith, same.share, total-set share_of s.views id v w here));
    listed = λ j u g. ⊎_elim (λ y. subst (λ (z : View). lists_of z ≤ z.share) y.1 (omega (arith, t.listed id v here, same.lists, same.share))) (λ y. t.listed j u y.1) (at_set s.views id j w u g);
    idle = λ j u g none_. ⊎_elim (λ y. absurd (omega (arith, ap (λ (z : View). z.share) y.1, same.share))) (λ y. t.idle j u y.1 none_) (at_set s.views id j w u g);
    stored = t.stored;
    put = λ x y. t.put x y ∙ still_put same.stores x y;
    placed = placed;
    drops = drops;
    faults = faults;
    settled = kept;
    met = λ j u g n h e. ⊎_elim (λ y. t.met id v here n h (subst (λ (l : List (List StoredWord)). get_elem? l n ≡ some h) (ap (λ (q : List StoredWord × (List (List StoredWord) × List Heading)). q.1.0) same.finds) (subst (λ (z : View). get_elem? z.histories n ≡ some h) (sym y.1) e)))
        (λ y. t.met j u y.1 n h e) (at_set s.views id j w u g);
    labelled = λ j u g. ⊎_elim (λ y. subst (Labelled p) y.1 (same.labels (t.labelled id v here))) (λ y. t.labelled j u y.1) (at_set s.views id j w u g);
    found_was = λ j u g n x e. let more = still_put same.stores x.place x.word in
        ⊎_elim (λ y. let f : get_elem? v.finds n ≡ some x = subst (λ (l : List StoredWord). get_elem? l n ≡ some x) (ap (λ (q : List StoredWord × (List (List StoredWord) × List Heading)). q.0) same.finds) (subst (λ (z : View). get_elem? z.finds n ≡ some x) (sym y.1) e) in omega (arith, t.found_was id v here n x f))
        (λ y. omega (arith, t.found_was j u y.1 n x e)) (at_set s.views id j w u g);
    dropped_was = λ j u g n h e. let more = still_headed same.accepts h in
        ⊎_elim (λ y. let f : get_elem? v.drops n ≡ some h = subst (λ (l : List Heading). get_elem? l n ≡ some h) (ap (λ (q : List StoredWord × (List (List StoredWord) × List Heading)). q.1.1) same.finds) (subst (λ (z : View). get_elem? z.drops n ≡ some h) (sym y.1) e) in omega (arith, t.dropped_was id v here n h f))
        (λ y. omega (arith, t.dropped_was j u y.1 n h e)) (at_set s.views id j w u g);
  }

  -- nothing of faults changed
  pub calm_links : StillHomes p s.homes hs → Calm v w → (k : ℕ) → k < p.links → LinkFaults shows rose p record { words = ws; homes = hs; views = set s.views id w } k
  calm_links still c k kl = calm id v w here ws hs k (t.faults k kl) (still.1 k kl) (c.faults k) (c.outs k) (c.faults (p.links + k)) (c.hands k)

  -- and where place words don't change it stays
  pub beside_faults : ((k : ℕ) → k < p.links → LinkFaults shows rose p record { words = ws; homes = hs; views = set s.views id w } k) → length hs ≡ length s.homes → SameShare p v w → Settled p t.stored t.placed ws hs → Rule shows p record { words = ws; homes = hs; views = set s.views id w } → OnTable shows rose p record { words = ws; homes = hs; views = set s.views id w }
  beside_faults faults long same kept r = beside_placed t.placed (λ l ll. drop_stays p s.views (set s.views id w) l (t.placed l) (λ n. still_put same.stores (place_index p l) n) (omega (arith, total-set (labelled_in l) s.views id v w here, same.accepts (is_labelled l))) (t.drops l ll)) faults long same kept r

  pub beside : StillHomes p s.homes hs → SameShare p v w → Calm v w → Settled p t.stored t.placed ws hs → Rule shows p record { words = ws; homes = hs; views = set s.views id w } → OnTable shows rose p record { words = ws; homes = hs; views = set s.views id w }
  beside still same c kept r = beside_faults (calm_links still c) still.0 same kept r
