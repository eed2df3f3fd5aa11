-- What clients leave is handed in, one after the other.
use Rattle.std.proofs.Common.{◌≡◌, Bool, true, false, ◌||◌, List, [], ◌∷◌, ◌++◌, map, length, length-append, refl, sym, ap, ◌∙◌, arith}
use Rattle.std.specs.List.{list_any}
use Rattle.std.specs.Vec.{vec_capacity}
use Rattle.std.proofs.lemmas.List.{append_assoc}
use Rattle.sock_io.specs.declared.link.Out.{Ghosts}
use Rattle.call_run.specs.declared.worker.Worker.{Worker}
use Rattle.call_run.specs.declared.leaving.Left.{Left}
use Rattle.call_run.specs.CrewOfRun.{HasMore, HandedIn}

-- ## Lists that grow by one of those that are left

pub more_left : {A B : Type 0} (f : A → B) (done more : List B) (left rest : List A) (x : A) (all : List B) → done ++ map f left ≡ all → left ≡ x ∷ rest → more ≡ done ++ f x ∷ [] → more ++ map f rest ≡ all
more_left f done more left rest x all h l e = ap (λ b. b ++ map f rest) e ∙ (append_assoc done (f x ∷ []) (map f rest) ∙ (sym (ap (λ xs. done ++ map f xs) l) ∙ h))

pub any_left : {A : Type 0} (f : A → Bool) (short next : Bool) (left rest : List A) (x : A) (all : Bool) → (short || list_any f left) ≡ all → left ≡ x ∷ rest → next ≡ (short || f x) → (next || list_any f rest) ≡ all
any_left f short n left rest x all h l e = ap (λ (b : Bool). b || list_any f rest) e ∙ (swap short (f x) (list_any f rest) ∙ (sym (ap (λ xs. short || list_any f xs) l) ∙ h))
  where
    swap : (a b c : Bool) → ((a || b) || c) ≡ (a || (b || c))
    swap true b c = refl
    swap false b c = refl

-- ## Clients

or_false : (b : Bool) → (b || false) ≡ b
or_false true = refl
or_false false = refl

module _ {O : Type 0} {g : Ghosts O} where
  -- with what those of the rest leave it is what all leave, and there is room for them
  pub record Handing (rest all : List (Worker O g)) (l m : Left O g) : Type 0 where
    pub seats : m.seats.items ++ map (λ (w : Worker O g). w.caller.seat) rest ≡ l.seats.items ++ map (λ (w : Worker O g). w.caller.seat) all
    pub ids : m.ids.items ++ map (λ (w : Worker O g). w.caller.calls.seat) rest ≡ l.ids.items ++ map (λ (w : Worker O g). w.caller.calls.seat) all
    pub told : m.told.items ++ map (λ (w : Worker O g). w.caller.outcomes) rest ≡ l.told.items ++ map (λ (w : Worker O g). w.caller.outcomes) all
    pub ended : m.ended.items ++ map (λ (w : Worker O g). w.caller.calls.told) rest ≡ l.ended.items ++ map (λ (w : Worker O g). w.caller.calls.told) all
    pub short : (m.short || list_any (λ (w : Worker O g). w.short) rest) ≡ (l.short || list_any (λ (w : Worker O g). w.short) all)
    pub room : (vec_capacity m.seats ≡ vec_capacity l.seats) × (vec_capacity m.ids ≡ vec_capacity l.ids) × (vec_capacity m.told ≡ vec_capacity l.told) × (vec_capacity m.ended ≡ vec_capacity l.ended)
    pub more : HasMore (length rest) m

  -- there is room for those that are left
  room_next : (left rest : List (Worker O g)) (w : Worker O g) (m n : Left O g) → HasMore (length left) m → left ≡ w ∷ rest → HandedIn (w ∷ []) m n → HasMore (length rest) n
  room_next left rest w m n h e one = let k = ap length e in let r = one.room in record {
    seats = (let a = h.seats in let b = r.0 in omega (arith, ap length one.seats, length-append m.seats.items (w.caller.seat ∷ [])));
    ids = (let a = h.ids in let b = r.1 in omega (arith, ap length one.ids, length-append m.ids.items (w.caller.calls.seat ∷ [])));
    told = (let a = h.told in let b = r.2 in omega (arith, ap length one.told, length-append m.told.items (w.caller.outcomes ∷ [])));
    ended = (let a = h.ended in let b = r.3 in omega (arith, ap length one.ended, length-append m.ended.items (w.caller.calls.told ∷ [])));
  }

  pub handing_next : (left rest all : List (Worker O g)) (w : Worker O g) (l m n : Left O g) → Handing left all l m → left ≡ w ∷ rest → HandedIn (w ∷ []) m n → Handing rest all l n
  handing_next left rest all w l m n h e one = record {
    seats = more_left (λ (x : Worker O g). x.caller.seat) m.seats.items n.seats.items left rest w _ h.seats e one.seats;
    ids = more_left (λ (x : Worker O g). x.caller.calls.seat) m.ids.items n.ids.items left rest w _ h.ids e one.ids;
    told = more_left (λ (x : Worker O g). x.caller.outcomes) m.told.items n.told.items left rest w _ h.told e one.told;
    ended = more_left (λ (x : Worker O g). x.caller.calls.told) m.ended.items n.ended.items left rest w _ h.ended e one.ended;
    short = any_left (λ (x : Worker O g). x.short) m.short n.short left rest w _ h.short e (one.short ∙ ap (λ (b : Bool). m.short || b) (or_false w.short));
    room = (one.room.0 ∙ h.room.0, one.room.1 ∙ h.room.1, one.room.2 ∙ h.room.2, one.room.3 ∙ h.room.3);
    more = room_next left rest w m n h.more e one;
  }

  pub room_one : (left rest : List (Worker O g)) (w : Worker O g) (m : Left O g) → HasMore (length left) m → left ≡ w ∷ rest → HasMore 1 m
  room_one left rest w m h e = let k = ap length e in record { seats = (let a = h.seats in omega arith); ids = (let a = h.ids in omega arith); told = (let a = h.told in omega arith); ended = (let a = h.ended in omega arith) }
