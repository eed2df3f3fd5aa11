-- Links get their readers, one after the other.
use Rattle.std.proofs.Common.{◌≡◌, ℕ, ◌+◌, ◌<◌, false, List, [], ◌∷◌, ◌++◌, map, length, get_or, take, length-append, sym, ap, ◌∙◌, subst, arith}
use Rattle.std.specs.Prelude.{Option}
use Rattle.std.proofs.lemmas.List.{map-append, append_assoc, append-nil, take_more, take_all, length-take-le, length-map}
use Rattle.atomic_table.specs.Seated.{TableId}
use Rattle.atomic_table.specs.declared.shared.Seat.{Seat}
use Rattle.sock_io.specs.declared.link.Out.{Ghosts}
use Rattle.sock_words.specs.declared.plain.Plan.{Plan}
use Rattle.sock_model.specs.declared.view.View.{View}
use Rattle.sock_rule.specs.declared.homes.SockHome.{SockHome}
use Rattle.sock_open.specs.NewTableContents.{IsNewSeat, AreNewSeats}
use Rattle.corr_core.specs.declared.marks.View as id_view
use Rattle.corr_id.specs.IdTableOpening.{AreNew}
use Rattle.sock_message.specs.Asked.{Asked}
use Rattle.rpc_reader.specs.ReaderBooks.{books}
use Rattle.link_crew.specs.declared.beside.Beside.{Beside}
use Rattle.link_crew.specs.declared.beside.Rest.{Rest}
use Rattle.call_run.specs.Hired.{IsNewId}
use Rattle.call_run.specs.ReadersOfLinks.{nothing_read}
use Rattle.call_run.specs.LinksBesideClients.{IsSeated, AreSeated, rest_of}
use Rattle.call_run.proofs.Dealing.{seats_last, ids_last}

module _ {O I P : Type 0} {g : Ghosts O} (z : TableId) (p : Plan) (y : TableId) where
  seated_snoc : (link : ℕ) (os : List ℕ) (o : ℕ) (bs : List (Beside O I P g)) (b : Beside O I P g) → AreSeated z p y link os bs → IsSeated z p y (link + length os) o b → AreSeated z p y link (os ++ o ∷ []) (bs ++ b ∷ [])
  seated_snoc link [] o [] b a h = (subst (λ n. IsSeated z p y n o b) (omega arith) h, tt)
  seated_snoc link [] o (c ∷ bs) b a h = absurd a
  seated_snoc link (x ∷ os) o [] b a h = absurd a
  seated_snoc link (x ∷ os) o (c ∷ bs) b a h = (a.0, seated_snoc (link + 1) os o bs b a.1 (subst (λ n. IsSeated z p y n o b) (omega arith) h))

  -- the readers of the first i links have their seats, and those of the others are to come
  pub record AreSeating (opens : List ℕ) (i : ℕ) (all rest : List (Rest I P)) (many seats : List (Seat (SockHome O g) View)) (many_ids ids : List (Seat (Option Asked) (id_view.View Asked))) (bs : List (Beside O I P g)) : Type 0 where
    pub seated : AreSeated z p y 0 (take i opens) bs
    pub rests : map rest_of bs ++ rest ≡ all
    pub seats_are : AreNewSeats z p seats
    pub ids_are : AreNew y ids
    pub count : length seats + i ≡ length many
    pub id_count : length ids + i ≡ length many_ids
    pub made : length bs ≡ i

  -- a new seat noted nothing
  pub none_read : (b : Beside O I P g) → IsNewId y b.reader.calls.seat → (b.reader.calls.early.items ≡ []) × (b.reader.calls.told.items ≡ []) × (b.reader.calls.starved ≡ false) → books b.reader.calls ≡ nothing_read
  none_read b new e = λ i. record { view = (new.1 i).0; early = e.0 i; told = e.1 i; starved = e.2 i }

  pub one_seated : (opens : List ℕ) (i : ℕ) (all left rest : List (Rest I P)) (r : Rest I P) (many seats fewer : List (Seat (SockHome O g) View)) (s : Seat (SockHome O g) View) (many_ids ids fewer_ids : List (Seat (Option Asked) (id_view.View Asked))) (k : Seat (Option Asked) (id_view.View Asked))
      (bs : List (Beside O I P g)) (b : Beside O I P g) → AreSeating opens i all left many seats many_ids ids bs → i < length opens → left ≡ r ∷ rest → seats ≡ fewer ++ s ∷ [] → ids ≡ fewer_ids ++ k ∷ []
      → (b.inn ≡ r.inn) × (b.peer ≡ r.peer) → (b.reader.seat ≡ s) × (b.reader.calls.seat ≡ k) → (b.reader.link ≡ i) × (b.operation ≡ get_or opens i 0) → (b.reader.calls.early.items ≡ []) × (b.reader.calls.told.items ≡ []) × (b.reader.calls.starved ≡ false)
      → AreSeating opens (i + 1) all rest many fewer many_ids fewer_ids (bs ++ b ∷ [])
  one_seated opens i all left rest r many seats fewer s many_ids ids fewer_ids k bs b h lt le se ie ends own number nothing =
      let ss = seats_last z p fewer s (subst (AreNewSeats z p) se h.seats_are) in let is = ids_last y fewer_ids k (subst (AreNew y) ie h.ids_are) in let new = subst (IsNewId y) (sym own.1) is.1 in
      let m = ap length se ∙ length-append fewer (s ∷ []) in let im = ap length ie ∙ length-append fewer_ids (k ∷ []) in let c = h.count in let ic = h.id_count in let n = h.made in record {
        seated = subst (λ os. AreSeated z p y 0 os (bs ++ b ∷ [])) (sym (take_more opens i 0 lt)) (seated_snoc 0 (take i opens) (get_or opens i 0) bs b h.seated record {
          number = number.0 ∙ (let t = length-take-le i opens (omega arith) in omega arith);
          operation_is = number.1;
          seat = subst (IsNewSeat z p) (sym own.0) ss.1;
          ids = new;
          nothing = none_read b new nothing;
        });
        rests = ap (λ l. l ++ rest) (map-append rest_of bs (b ∷ [])) ∙ (append_assoc (map rest_of bs) (rest_of b ∷ []) rest ∙ ((λ j. map rest_of bs ++ (record { inn = ends.0 j; peer = ends.1 j }) ∷ rest) ∙ (sym (ap (λ l. map rest_of bs ++ l) le) ∙ h.rests)));
        seats_are = ss.0;
        ids_are = is.0;
        count = omega arith;
        id_count = omega arith;
        made = omega (arith, length-append bs (b ∷ []));
      }

  -- all have theirs
  pub all_seated : (opens : List ℕ) (i : ℕ) (all rest : List (Rest I P)) (many seats : List (Seat (SockHome O g) View)) (many_ids ids : List (Seat (Option Asked) (id_view.View Asked))) (bs : List (Beside O I P g)) → AreSeating opens i all rest many seats many_ids ids bs → i ≡ length opens → AreSeated z p y 0 opens bs
  all_seated opens i all rest many seats many_ids ids bs h e = subst (λ os. AreSeated z p y 0 os bs) (take_all i opens (omega arith)) h.seated

  pub no_rest : (bs : List (Beside O I P g)) (all rest : List (Rest I P)) → map rest_of bs ++ rest ≡ all → length bs ≡ length all → map rest_of bs ≡ all
  no_rest bs all [] e n = sym (append-nil (map rest_of bs)) ∙ e
  no_rest bs all (r ∷ rs) e n = absurd (let m = length-map bs rest_of in omega (arith, ap length e, length-append (map rest_of bs) (r ∷ rs)))
