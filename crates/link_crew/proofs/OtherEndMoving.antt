-- What calls of an other end move together.
use Rattle.std.proofs.Common.{◌≡◌, ◌≢◌, ℕ, ◌⊎◌, inl, inr, Bool, true, false, List, [], ◌∷◌, ◌++◌, None, Some, Result, Ok, Err, refl, ap, sym, ◌∙◌, subst, arith, append_assoc, length-append}
use Rattle.std.specs.Prelude.{Option}
use Rattle.std.specs.Io.KnownBytes.{append_known}
use Rattle.sock_io.specs.declared.ending.Ending.{Ending}
use Rattle.sock_io.specs.declared.ending.Ending.TheVariants as ending
use Rattle.sock_io.specs.declared.link.Served.{Served}
use Rattle.sock_io.specs.declared.link.Served.TheVariants as served
use Rattle.sock_words.specs.declared.memory.NoMemory.{NoMemory}
use Rattle.sock_io.specs.Peer.{PeerState, Grew, Moves, Moved, ServeStep}
use Rattle.link_crew.specs.ServingOtherEnd.{IsStarved, Serves, ServedOn, ServedToEnd, lacks}

known_on : (o : Option (List ℕ)) (x y : List ℕ) → append_known (append_known o x) y ≡ append_known o (x ++ y)
known_on None x y = refl
known_on (Some b) x y = ap Some (append_assoc b x y)

grew_on : (n m k : ℕ) (o p q : Option (List ℕ)) (x y : List ℕ) → Grew n m o p x → Grew m k p q y → Grew n k o q (x ++ y)
grew_on n m k o p q x y a b = record { count = omega (arith, a.count, b.count, length-append x y); known = b.known ∙ ap (λ (o : Option (List ℕ)). append_known o y) a.known ∙ known_on o x y }

both_none : (x y : List ℕ) → x ≡ [] → y ≡ [] → x ++ y ≡ []
both_none x y e f = ap (λ (l : List ℕ). l ++ y) e ∙ f

module _ (a b c : PeerState) where
  moves_on : (t g u h : List ℕ) → Moves a b t g → Moves b c u h → Moves a c (t ++ u) (g ++ h)
  moves_on t g u h m n = record {
    present = n.present ∙ m.present;
    asked = (n.asked.0 ∙ m.asked.0, n.asked.1 ∙ m.asked.1);
    ways = (n.ways.0 ∙ m.ways.0, n.ways.1 ∙ m.ways.1);
    took = grew_on a.took b.took c.took a.took_bytes b.took_bytes c.took_bytes t u m.took n.took;
    gave = grew_on a.gave b.gave c.gave a.gave_bytes b.gave_bytes c.gave_bytes g h m.gave n.gave;
    finished = λ e. let x = m.finished e in let y = n.finished x.0 in (y.0, both_none t u x.1 y.1);
    ended = λ e. let x = m.ended e in let y = n.ended (λ o. e (sym x.0 ∙ o)) in (y.0 ∙ x.0, both_none g h x.1 y.1);
    closed = n.closed;
    absent = λ e. n.absent (m.present ∙ e) ∙ m.absent e;
  }

  moved_on : Moved a b → Moved b c → Moved a c
  moved_on (t, g, m) (u, h, n) = (t ++ u, g ++ h, moves_on t g u h m n)

  moved_either : (b ≡ a) ⊎ Moved a b → Moved b c → Moved a c
  moved_either (inl e) n = subst (λ (s : PeerState). Moved s c) e n
  moved_either (inr m) n = moved_on m n

true_not : false ≡ true → ⊥
true_not e = cc

not_open : (e : Ending) → e ≡ ending.Ended → e ≢ ending.Open
not_open e d o = cc

still_starved : (b c : PeerState) → IsStarved b → Moved b c → IsStarved c
still_starved b c s (t, g, m) = (m.present ∙ s.0, (m.ended (not_open b.ending s.1)).0 ∙ s.1)

not_short : {A : Type 0} → false ≡ true → A
not_short e = absurd (true_not e)

serves_more : (xs : List (Result Served NoMemory)) (x : Result Served NoMemory) (s m t : PeerState) → Serves xs s m → ServeStep m x t → Serves (xs ++ x ∷ []) s t
serves_more [] x s m t a step = (t, subst (λ (n : PeerState). ServeStep n x t) a step, refl)
serves_more (y ∷ ys) x s m t a step = (a.0, a.1, serves_more ys x a.0 m t a.2 step)

lacks_no : (xs : List (Result Served NoMemory)) (x : Served) → lacks xs ≡ lacks (xs ++ Ok x ∷ [])
lacks_no [] x = refl
lacks_no (Ok y ∷ ys) x = lacks_no ys x
lacks_no (Err e ∷ ys) x = refl

lacks_then : (xs : List (Result Served NoMemory)) (e : NoMemory) → true ≡ lacks (xs ++ Err e ∷ [])
lacks_then [] e = refl
lacks_then (Ok y ∷ ys) e = lacks_then ys e
lacks_then (Err f ∷ ys) e = refl

pub served_none : (a : PeerState) → ServedOn false a a
served_none a = record { answers = []; steps = refl; told = refl; moved = inl refl; starved = not_short; calm = λ _. refl }

module _ (short : Bool) (a b c : PeerState) (on : ServedOn short a b) where
  pub served_more : ServeStep b (Ok served.Moved) c → ServedOn short a c
  served_more m = record {
    answers = on.answers ++ Ok served.Moved ∷ [];
    steps = serves_more on.answers (Ok served.Moved) a b c on.steps m;
    told = on.told ∙ lacks_no on.answers served.Moved;
    moved = inr (moved_either a b c on.moved m.0);
    starved = λ e. still_starved b c (on.starved e) m.0;
    calm = λ e. m.3 ∙ on.calm e;
  }

  pub served_same : ServeStep b (Ok served.Waiting) c → ServedOn short a c
  served_same m = record {
    answers = on.answers ++ Ok served.Waiting ∷ [];
    steps = serves_more on.answers (Ok served.Waiting) a b c on.steps m;
    told = on.told ∙ lacks_no on.answers served.Waiting;
    moved = subst (λ (s : PeerState). (s ≡ a) ⊎ Moved a s) (sym m.0) on.moved;
    starved = λ e. subst IsStarved (sym m.0) (on.starved e);
    calm = λ e. ap (λ (s : PeerState). s.starved) m.0 ∙ on.calm e;
  }

  pub served_short : (e : NoMemory) → ServeStep b (Err e) c → ServedOn true a c
  served_short e m = record {
    answers = on.answers ++ Err e ∷ [];
    steps = serves_more on.answers (Err e) a b c on.steps m;
    told = lacks_then on.answers e;
    moved = inr (moved_either a b c on.moved m.0);
    starved = λ _. (m.0.2.present ∙ m.1, m.3);
    calm = λ e. absurd (true_not (sym e));
  }

  pub served_last : ServeStep b (Ok served.Done) c → ServedToEnd short a c
  served_last m = record {
    answers = on.answers ++ Ok served.Done ∷ [];
    steps = serves_more on.answers (Ok served.Done) a b c on.steps m;
    told = on.told ∙ lacks_no on.answers served.Done;
    moved = moved_either a b c on.moved m.0;
    done = m.1;
    starved = λ e. still_starved b c (on.starved e) m.0;
    calm = λ e. m.2 ∙ on.calm e;
  }
