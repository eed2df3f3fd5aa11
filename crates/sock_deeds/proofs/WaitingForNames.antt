-- A seat that first waited for names, and what it did then.
use Rattle.std.proofs.Common.{◌≡◌, ℕ, zero, suc, ◌<◌, inl, inr, Some, List, [], ◌∷◌, ◌++◌, flat_map, refl, sym, ap, ◌∙◌, subst, arith}
use Rattle.std.proofs.lemmas.Option.{none-some}
use mathlib.Core.Option.{some, some-injective, some-ne-none}
use lib.ListN.{get_elem?}
use Rattle.atomic_table.specs.declared.shared.Seat.{Seat}
use Rattle.sock_io.specs.declared.link.Out.{Ghosts}
use Rattle.sock_io.specs.LinkHalves.{OutState}
use Rattle.sock_words.specs.declared.plain.Plan.{Plan}
use Rattle.sock_words.specs.declared.socket_id.SocketId.{SocketId}
use Rattle.sock_model.specs.declared.view.View.{View}
use Rattle.sock_model.specs.ViewsOfSplitSeats.{newcomer}
use Rattle.rpc_client.specs.sock_rule.specs.declared.homes.SockHome.{SockHome}
use Rattle.rpc_client.specs.sock_table.specs.NamesStoredAndFound.{Found}
use Rattle.sock_deeds.specs.Deeds.{Hand, Did, waits, own_number, Deed, Chain}
use Rattle.sock_deeds.specs.SocketTableRun.{listed, numbers_of, Seated}
use Rattle.sock_deeds.proofs.DeedTotals.{chain_then}
use Rattle.sock_deeds.proofs.Flats.{append_cases, append_first, flat-append}
use Rattle.sock_deeds.proofs.ListPlaces.{place_low}
use Rattle.sock_deeds.proofs.StepsOfDeeds.{Steps}

-- ## Waiting

-- a deed for each of these names, in their order
pub record Waiting {O : Type 0} (g : Ghosts O) (state : O → OutState) (p : Plan) (names : List ℕ) (v w : View) : Type 0 where
  pub deeds : List (Deed g state p)
  pub chain : Chain g state p deeds record { view = v; held = [] } record { view = w; held = [] }
  pub all : (k : ℕ) (d : Deed g state p) → get_elem? deeds k ≡ some d → (n : ℕ) × (d.did ≡ waits n)
  pub each : (k n : ℕ) → get_elem? names k ≡ some n → (d : Deed g state p) × (get_elem? deeds k ≡ some d) × (d.did ≡ waits n)

module _ {O : Type 0} {g : Ghosts O} {state : O → OutState} {p : Plan} where
  pub no_wait : (v w : View) → w ≡ v → Waiting g state p [] v w
  no_wait v w e = record { deeds = []; chain = ap (λ (x : View). record { view = x; held = [] }) e; all = λ k d at. absurd (some-ne-none d (sym at)); each = λ k n at. absurd (some-ne-none n (sym at)) }

  pub one_wait : (n : ℕ) (ns : List ℕ) (v u w : View) (id : SocketId) → Found p n (Some id) v u → Waiting g state p ns u w → Waiting g state p (n ∷ ns) v w
  one_wait n ns v u w id found rest =
      let d : Deed g state p = record { did = waits n; before = record { view = v; held = [] }; after = record { view = u; held = [] }; done = ((id, found), refl) } in
      record { deeds = d ∷ rest.deeds; chain = (refl, rest.chain); all = all_of d refl; each = each_of d refl }
    where
      all_of : (d : Deed g state p) → d.did ≡ waits n → (k : ℕ) (e : Deed g state p) → get_elem? (d ∷ rest.deeds) k ≡ some e → (m : ℕ) × (e.did ≡ waits m)
      all_of d is zero e at = (n, ap (λ (x : Deed g state p). x.did) (sym (some-injective d e at)) ∙ is)
      all_of d is (suc k) e at = rest.all k e at

      each_of : (d : Deed g state p) → d.did ≡ waits n → (k m : ℕ) → get_elem? (n ∷ ns) k ≡ some m → (e : Deed g state p) × (get_elem? (d ∷ rest.deeds) k ≡ some e) × (e.did ≡ waits m)
      each_of d is zero m at = (d, refl, is ∙ ap waits (some-injective n m at))
      each_of d is (suc k) m at = rest.each k m at

-- ## What it did then

module _ {O : Type 0} (g : Ghosts O) (state : O → OutState) (p : Plan) (P : Did → Type 0) (names : List ℕ) where
  -- a seat with these names waited for before it did what has these numbers
  pub record Waited (numbers : List ℕ) (y : Seated g state p) : Type 0 where
    pub each : (k : ℕ) (d : Deed g state p) → get_elem? y.deeds k ≡ some d → P d.did
    pub numbered : flat_map numbers_of y.deeds ≡ numbers
    pub first : (i n : ℕ) → get_elem? names i ≡ some n → (d : Deed g state p) × (get_elem? y.deeds i ≡ some d) × (d.did ≡ waits n) × ((j m : ℕ) (e : Deed g state p) → get_elem? y.deeds j ≡ some e → own_number e.did ≡ Some m → i < j)

  none_numbered : (ds : List (Deed g state p)) → ((k : ℕ) (d : Deed g state p) → get_elem? ds k ≡ some d → (n : ℕ) × (d.did ≡ waits n)) → flat_map numbers_of ds ≡ []
  none_numbered [] all = refl
  none_numbered (d ∷ ds) all = let w = all 0 d refl in ap (λ x. listed (own_number x) ++ flat_map numbers_of ds) w.1 ∙ none_numbered ds (λ k e at. all (suc k) e at)

  pub seated : (numbers : List ℕ) (spare : ℕ) (w : View) → ((n : ℕ) → P (waits n)) → Waiting g state p names (newcomer p [] spare) w → (t : Hand) → Steps g state p P numbers record { view = w; held = [] } t → (seat : Seat (SockHome O g) View) → seat.me.0 ≡ t.view → (y : Seated g state p) × (y.seat ≡ seat) × Waited numbers y
  seated numbers spare w may a t b seat left =
      let y : Seated g state p = record { spare = spare; deeds = a.deeds ++ b.deeds; ended = t; chain = chain_then a.deeds b.deeds record { view = newcomer p [] spare; held = [] } record { view = w; held = [] } t a.chain b.chain; seat = seat; left = left } in (
        y,
        refl,
        record {
          each = λ k d at. elim (append_cases a.deeds b.deeds k d at) [ inl h ↦ (let n = a.all k d h in subst P (sym n.1) (may n.0)) | inr q ↦ b.each q.0 d q.2 ];
          numbered = flat-append numbers_of a.deeds b.deeds ∙ (ap (λ l. l ++ flat_map numbers_of b.deeds) (none_numbered a.deeds a.all) ∙ b.numbered);
          first = λ i n at. (let d = a.each i n at in (d.0, append_first a.deeds b.deeds i d.0 d.1, d.2, λ j m e there own. behind i d.0 d.1 j m e there own));
        },
      )
    where
      behind : (i : ℕ) (d : Deed g state p) → get_elem? a.deeds i ≡ some d → (j m : ℕ) (e : Deed g state p) → get_elem? (a.deeds ++ b.deeds) j ≡ some e → own_number e.did ≡ Some m → i < j
      behind i d at j m e there own = elim (append_cases a.deeds b.deeds j e there) [
        | inl h ↦ absurd (let n = a.all j e h in none-some m (sym (ap own_number n.1) ∙ own))
        | inr q ↦ (let low = place_low a.deeds i d at in let place = q.1 in omega arith)
      ]
