-- What links leave is handed in, one after the other.
use Rattle.std.proofs.Common.{◌≡◌, Bool, false, ◌||◌, List, [], ◌∷◌, ◌++◌, map, length, length-append, sym, ap, ◌∙◌, arith}
use Rattle.std.specs.List.{list_any, AllByRecursion}
use Rattle.std.proofs.lemmas.List.{append-nil}
use Rattle.sock_io.specs.declared.link.Out.{Ghosts}
use Rattle.link_crew.specs.declared.beside.Beside.{Beside}
use Rattle.call_run.specs.declared.links.LinksLeft.{LinksLeft}
use Rattle.call_run.specs.LinksBesideClients.{rest_of, IsLinksRoom, HasMoreLinks, PartedOne, AreParted}
use Rattle.call_run.proofs.ClientsHandingIn.{more_left, any_left}
use Rattle.call_run.proofs.Weaving.{none_short}

module _ {O I P : Type 0} {g : Ghosts O} where
  abbrev pub lacked : Beside O I P g → Bool
  lacked b = b.unserved || b.unread

  -- with what those of the rest leave it is what all leave
  pub record Parting (rest all : List (Beside O I P g)) (m : LinksLeft O I P g) : Type 0 where
    pub rests : m.rests.items ++ map rest_of rest ≡ map rest_of all
    pub seats : m.seats.items ++ map (λ (b : Beside O I P g). b.reader.seat) rest ≡ map (λ (b : Beside O I P g). b.reader.seat) all
    pub ids : m.ids.items ++ map (λ (b : Beside O I P g). b.reader.calls.seat) rest ≡ map (λ (b : Beside O I P g). b.reader.calls.seat) all
    pub told : m.told.items ++ map (λ (b : Beside O I P g). b.reader.calls.told) rest ≡ map (λ (b : Beside O I P g). b.reader.calls.told) all
    pub early : m.early.items ++ map (λ (b : Beside O I P g). b.reader.calls.early) rest ≡ map (λ (b : Beside O I P g). b.reader.calls.early) all
    pub short : (m.short || list_any lacked rest) ≡ list_any lacked all

  pub none_parted : (all : List (Beside O I P g)) (m : LinksLeft O I P g) (n : _) → IsLinksRoom n m → Parting all all m
  none_parted all m n r = record {
    rests = ap (λ l. l ++ map rest_of all) r.rests.0;
    seats = ap (λ l. l ++ map (λ (b : Beside O I P g). b.reader.seat) all) r.seats.0;
    ids = ap (λ l. l ++ map (λ (b : Beside O I P g). b.reader.calls.seat) all) r.ids.0;
    told = ap (λ l. l ++ map (λ (b : Beside O I P g). b.reader.calls.told) all) r.told.0;
    early = ap (λ l. l ++ map (λ (b : Beside O I P g). b.reader.calls.early) all) r.early.0;
    short = ap (λ (c : Bool). c || list_any lacked all) r.calm;
  }

  pub parting_next : (left rest all : List (Beside O I P g)) (b : Beside O I P g) (m n : LinksLeft O I P g) → Parting left all m → left ≡ b ∷ rest → PartedOne b m n → Parting rest all n
  parting_next left rest all b m n h e one = record {
    rests = more_left rest_of m.rests.items n.rests.items left rest b _ h.rests e one.rests;
    seats = more_left (λ (x : Beside O I P g). x.reader.seat) m.seats.items n.seats.items left rest b _ h.seats e one.seats;
    ids = more_left (λ (x : Beside O I P g). x.reader.calls.seat) m.ids.items n.ids.items left rest b _ h.ids e one.ids;
    told = more_left (λ (x : Beside O I P g). x.reader.calls.told) m.told.items n.told.items left rest b _ h.told e one.told;
    early = more_left (λ (x : Beside O I P g). x.reader.calls.early) m.early.items n.early.items left rest b _ h.early e one.early;
    short = any_left lacked m.short n.short left rest b _ h.short e one.short;
  }

  none_lacked : (bs : List (Beside O I P g)) → list_any lacked bs ≡ false → AllByRecursion (λ (b : Beside O I P g). (b.unserved ≡ false) × (b.unread ≡ false)) bs
  none_lacked [] e = tt
  none_lacked (b ∷ bs) e = let h = none_short (lacked b) (list_any lacked bs) e in (none_short b.unserved b.unread h.0, none_lacked bs h.1)

  pub all_parted : (rest all : List (Beside O I P g)) (m : LinksLeft O I P g) → Parting rest all m → length rest ≡ 0 → HasMoreLinks (length rest) m → AreParted all m
  all_parted [] all m h e more = record {
    rests = sym (append-nil m.rests.items) ∙ h.rests;
    seats = sym (append-nil m.seats.items) ∙ h.seats;
    ids = sym (append-nil m.ids.items) ∙ h.ids;
    told = sym (append-nil m.told.items) ∙ h.told;
    early = sym (append-nil m.early.items) ∙ h.early;
    calm = λ calm. none_lacked all (sym h.short ∙ ap (λ (c : Bool). c || false) calm);
    room = (let r = more.seats in omega arith);
  }
  all_parted (b ∷ bs) all m h e more = absurd (omega arith)

  -- there is room for those that are left
  pub links_next : (left rest : List (Beside O I P g)) (b : Beside O I P g) (m n : LinksLeft O I P g) → HasMoreLinks (length left) m → left ≡ b ∷ rest → PartedOne b m n → HasMoreLinks (length rest) n
  links_next left rest b m n h e one = let k = ap length e in let r = one.room in record {
    rests = (let a = h.rests in let c = r.0 in omega (arith, ap length one.rests, length-append m.rests.items (rest_of b ∷ [])));
    seats = (let a = h.seats in let c = r.1 in omega (arith, ap length one.seats, length-append m.seats.items (b.reader.seat ∷ [])));
    ids = (let a = h.ids in let c = r.2 in omega (arith, ap length one.ids, length-append m.ids.items (b.reader.calls.seat ∷ [])));
    told = (let a = h.told in let c = r.3 in omega (arith, ap length one.told, length-append m.told.items (b.reader.calls.told ∷ [])));
    early = (let a = h.early in let c = r.4 in omega (arith, ap length one.early, length-append m.early.items (b.reader.calls.early ∷ [])));
  }

  pub links_one : (left rest : List (Beside O I P g)) (b : Beside O I P g) (m : LinksLeft O I P g) → HasMoreLinks (length left) m → left ≡ b ∷ rest → HasMoreLinks 1 m
  links_one left rest b m h e = let k = ap length e in record { rests = (let a = h.rests in omega arith); seats = (let a = h.seats in omega arith); ids = (let a = h.ids in omega arith); told = (let a = h.told in omega arith); early = (let a = h.early in omega arith) }

  pub links_more : (n : _) (m : LinksLeft O I P g) → IsLinksRoom n m → HasMoreLinks n m
  links_more n m r = record {
    rests = (let e = ap length r.rests.0 in let c = r.rests.2 in omega arith);
    seats = (let e = ap length r.seats.0 in let c = r.seats.2 in omega arith);
    ids = (let e = ap length r.ids.0 in let c = r.ids.2 in omega arith);
    told = (let e = ap length r.told.0 in let c = r.told.2 in omega arith);
    early = (let e = ap length r.early.0 in let c = r.early.2 in omega arith);
  }
