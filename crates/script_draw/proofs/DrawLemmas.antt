-- Draws one after another.
use Rattle.std.proofs.Common.{◌≡◌, ℕ, zero, suc, ◌+◌, ◌-◌, ◌%◌, ◌<◌, List, [], ◌∷◌, ◌++◌, map, refl, ap, sym, ◌∙◌, arith, append_assoc, add-one}
use Rattle.brpc_model.specs.Items.{Item, Client}
use Rattle.brpc_model.specs.DrawnSeatsAndScripts.{drawn, drawn_state, draws, state_behind, gen_item, gen_size, gen_operations, gen_draws, gen_clients}

behind_one : (n x : ℕ) → state_behind (suc n) x ≡ drawn_state (state_behind n x)
behind_one zero x = refl
behind_one (suc n) x = behind_one n (drawn_state x)

-- the state behind one more draw
pub behind_more : (n x : ℕ) → state_behind (n + 1) x ≡ drawn_state (state_behind n x)
behind_more n x = ap (λ k. state_behind k x) (add-one n) ∙ behind_one n x

pub draws_one : (n x : ℕ) → draws (suc n) x ≡ draws n x ++ drawn (state_behind n x) ∷ []
draws_one zero x = refl
draws_one (suc n) x = ap (λ ds. drawn x ∷ ds) (draws_one n (drawn_state x))

map_one : (xs : List ℕ) (x : ℕ) → map (λ d. d % 256) (xs ++ x ∷ []) ≡ map (λ d. d % 256) xs ++ x % 256 ∷ []
map_one [] x = refl
map_one (y ∷ xs) x = ap (λ ds. (y % 256) ∷ ds) (map_one xs x)

-- the bytes with one more
pub bytes_more : (n x : ℕ) → map (λ d. d % 256) (draws (n + 1) x) ≡ map (λ d. d % 256) (draws n x) ++ (drawn (state_behind n x) % 256) ∷ []
bytes_more n x = ap (λ k. map (λ d. d % 256) (draws k x)) (add-one n) ∙ ap (map (λ d. d % 256)) (draws_one n x) ∙ map_one (draws n x) (drawn (state_behind n x))

-- draws behind draws
pub behind_sum : (m n x : ℕ) → state_behind (m + n) x ≡ state_behind n (state_behind m x)
behind_sum zero n x = let e : 0 + n ≡ n = omega arith in ap (λ k. state_behind k x) e
behind_sum (suc m) n x = let e : suc m + n ≡ suc (m + n) = omega arith in ap (λ k. state_behind k x) e ∙ behind_sum m n (drawn_state x)

-- ## The operations that are left

-- one of the operations that are left
pub operations_step : (ops i c x : ℕ) → i < ops →
    gen_operations (ops - i) c (i + 1) x ≡ gen_item (i + 1) (map (λ d. d % 256) (draws (gen_size c (i + 1)) x)) ∷ gen_operations (ops - (i + 1)) c (i + 1 + 1) (state_behind (gen_size c (i + 1)) x)
operations_step ops i c x h = let e : ops - i ≡ suc (ops - (i + 1)) = omega arith in ap (λ k. gen_operations k c (i + 1) x) e

-- the draws of the operations that are left
pub draws_step : (ops i c x : ℕ) → i < ops → state_behind (gen_draws (ops - i) c (i + 1)) x ≡ state_behind (gen_draws (ops - (i + 1)) c (i + 1 + 1)) (state_behind (gen_size c (i + 1)) x)
draws_step ops i c x h =
    let e : ops - i ≡ suc (ops - (i + 1)) = omega arith in
    ap (λ k. state_behind (gen_draws k c (i + 1)) x) e ∙ behind_sum (gen_size c (i + 1)) (gen_draws (ops - (i + 1)) c (i + 1 + 1)) x

-- one of the clients that are left
pub clients_step : (clients i ops x : ℕ) → i < clients →
    gen_clients (clients - i) (i + 1) ops x ≡ Client ∷ gen_operations ops (i + 1) 1 x ++ gen_clients (clients - (i + 1)) (i + 1 + 1) ops (state_behind (gen_draws ops (i + 1) 1) x)
clients_step clients i ops x h = let e : clients - i ≡ suc (clients - (i + 1)) = omega arith in ap (λ k. gen_clients k (i + 1) ops x) e

-- one more operation
pub operation_placed : (old new all : List Item) (v : Item) (bytes : List ℕ) (size x y ops i c : ℕ) → i < ops → new ≡ old ++ v ∷ [] → v ≡ gen_item (i + 1) bytes
    → bytes ≡ map (λ d. d % 256) (draws size x) → size ≡ gen_size c (i + 1) → y ≡ state_behind size x
    → old ++ gen_operations (ops - i) c (i + 1) x ≡ all → new ++ gen_operations (ops - (i + 1)) c (i + 1 + 1) y ≡ all
operation_placed old new all v bytes size x y ops i c h grown is drawn long behind before =
    let n = gen_size c (i + 1) in
    let rest = gen_operations (ops - (i + 1)) c (i + 1 + 1) in
    let item_is : v ≡ gen_item (i + 1) (map (λ d. d % 256) (draws n x)) = is ∙ ap (gen_item (i + 1)) (drawn ∙ ap (λ k. map (λ d. d % 256) (draws k x)) long) in
    let state_is : y ≡ state_behind n x = behind ∙ ap (λ k. state_behind k x) long in
    ap (λ l. l ++ rest y) grown
    ∙ append_assoc old (v ∷ []) (rest y)
    ∙ ap (λ w. old ++ w ∷ rest y) item_is
    ∙ ap (λ s. old ++ gen_item (i + 1) (map (λ d. d % 256) (draws n x)) ∷ rest s) state_is
    ∙ ap (λ l. old ++ l) (sym (operations_step ops i c x h))
    ∙ before

-- the draws that are left behind one more operation
pub operation_drawn : (size x y z ops i c : ℕ) → i < ops → size ≡ gen_size c (i + 1) → y ≡ state_behind size x
    → state_behind (gen_draws (ops - i) c (i + 1)) x ≡ z → state_behind (gen_draws (ops - (i + 1)) c (i + 1 + 1)) y ≡ z
operation_drawn size x y z ops i c h long behind before =
    ap (state_behind (gen_draws (ops - (i + 1)) c (i + 1 + 1))) (behind ∙ ap (λ k. state_behind k x) long) ∙ sym (draws_step ops i c x h) ∙ before

-- one more client
pub client_placed : (old new all : List Item) (x y clients i ops : ℕ) → i < clients → new ≡ (old ++ Client ∷ []) ++ gen_operations ops (i + 1) 1 x → y ≡ state_behind (gen_draws ops (i + 1) 1) x
    → old ++ gen_clients (clients - i) (i + 1) ops x ≡ all → new ++ gen_clients (clients - (i + 1)) (i + 1 + 1) ops y ≡ all
client_placed old new all x y clients i ops h grown behind before =
    let rest = gen_clients (clients - (i + 1)) (i + 1 + 1) ops in
    ap (λ l. l ++ rest y) grown
    ∙ ap (λ s. ((old ++ Client ∷ []) ++ gen_operations ops (i + 1) 1 x) ++ rest s) behind
    ∙ regroup old (gen_operations ops (i + 1) 1 x) (rest (state_behind (gen_draws ops (i + 1) 1) x))
    ∙ ap (λ l. old ++ l) (sym (clients_step clients i ops x h))
    ∙ before
  where
    regroup : (a b c : List Item) → ((a ++ Client ∷ []) ++ b) ++ c ≡ a ++ (Client ∷ b ++ c)
    regroup a b c = append_assoc (a ++ Client ∷ []) b c ∙ append_assoc a (Client ∷ []) (b ++ c)
