-- Places, each with the number of a desk and perhaps an owner: what is gathered for them, and what stands at those of one owner.
use Rattle.std.proofs.Common.{◌≡◌, ℕ, zero, suc, ◌<◌, ◌≤◌, Bool, true, false, List, [], ◌∷◌, length, take, Option, Some, None, refl, sym, ◌∙◌, ap, ap₂, subst, arith, eq-eqb}
use borrow.Author.Tests.{eqb-true}
use Rattle.std.specs.Prelude.{◌==◌, if◌then◌else◌, map, filter, IfSome}
use Rattle.std.specs.List.{AllByRecursion}
use Rattle.td_desk.specs.Runs.{is_holder}
use Rattle.td_split_jobs.specs.Gathered.{with_left, first_and, gathered}

-- ---- lists

filter_take_by : {A : Type 0} (p : A → Bool) (n : ℕ) (x : A) (xs : List A) (b : Bool) → p x ≡ b → filter p (take n xs) ≡ take (length (filter p (take n xs))) (filter p xs)
    → filter p (take (suc n) (x ∷ xs)) ≡ take (length (filter p (take (suc n) (x ∷ xs)))) (filter p (x ∷ xs))
filter_take_by {A} p n x xs true is same = rw is (ap (λ (l : List A). x ∷ l) same)
filter_take_by p n x xs false is same = rw is same

filter_map_by : {A B : Type 0} (p : B → Bool) (g : A → B) (x : A) (xs : List A) (b : Bool) → p (g x) ≡ b → filter p (map g xs) ≡ map g (filter (λ y. p (g y)) xs)
    → filter p (map g (x ∷ xs)) ≡ map g (filter (λ y. p (g y)) (x ∷ xs))
filter_map_by {A} {B} p g x xs true is same = rw is (ap (λ (l : List B). g x ∷ l) same)
filter_map_by p g x xs false is same = rw is same

-- those of a beginning are a beginning of those of all
pub filter_take : {A : Type 0} (p : A → Bool) (n : ℕ) (xs : List A) → filter p (take n xs) ≡ take (length (filter p (take n xs))) (filter p xs)
filter_take p zero xs = refl
filter_take p (suc n) [] = refl
filter_take p (suc n) (x ∷ xs) = filter_take_by p n x xs (p x) refl (filter_take p n xs)

tail_of : {A : Type 0} → List A → List A
tail_of [] = []
tail_of (x ∷ xs) = xs

head_of : {A : Type 0} → A → List A → A
head_of d [] = d
head_of d (x ∷ xs) = x

pub heads : {A : Type 0} {x y : A} {xs ys : List A} → (x ∷ xs) ≡ (y ∷ ys) → x ≡ y
unfolding head_of
heads {x = x} same = ap (head_of x) same

pub tails : {A : Type 0} {x y : A} {xs ys : List A} → (x ∷ xs) ≡ (y ∷ ys) → xs ≡ ys
unfolding tail_of
tails same = ap tail_of same

-- what is chosen among things that were made of others
pub filter_map : {A B : Type 0} (p : B → Bool) (g : A → B) (xs : List A) → filter p (map g xs) ≡ map g (filter (λ x. p (g x)) xs)
filter_map p g [] = refl
filter_map p g (x ∷ xs) = filter_map_by p g x xs (p (g x)) refl (filter_map p g xs)

-- what desk i has left
left_more : {X : Type 0} (i n : ℕ) (left : List X) (lists : ℕ → List X) (here : Bool) → (n == i) ≡ here → with_left n left lists i ≡ (if here then left else lists i)
left_more i n left lists here is = rw is refl

-- what is gathered, and then made into something, is gathered of what it is made into
left_map : {X Y : Type 0} (g : X → Y) (i j : ℕ) (left : List X) (lists : ℕ → List X) (others : ℕ → List Y) (here : Bool) → (i == j) ≡ here → others j ≡ map g (lists j)
    → with_left i (map g left) others j ≡ map g (with_left i left lists j)
left_map g i j left lists others true is same = rw is refl
left_map g i j left lists others false is same = rw is same

gathered_map_by : {X Y : Type 0} (g : X → Y) (i : ℕ) (desks : List ℕ) (lists : ℕ → List X) (others : ℕ → List Y) (l : List X) → lists i ≡ l → others i ≡ map g l
    → ((x : X) (left : List X) → lists i ≡ x ∷ left → map g (gathered desks (with_left i left lists)) ≡ gathered desks (with_left i (map g left) others))
    → map g (first_and l (λ left. gathered desks (with_left i left lists))) ≡ first_and (others i) (λ left. gathered desks (with_left i left others))
gathered_map_by g i desks lists others [] has same rest = rw same refl
gathered_map_by {X} {Y} g i desks lists others (x ∷ left) has same rest = rw same (ap (λ (l : List Y). g x ∷ l) (rest x left has))

pub gathered_map : {X Y : Type 0} (g : X → Y) (desks : List ℕ) (lists : ℕ → List X) (others : ℕ → List Y) → ((j : ℕ) → others j ≡ map g (lists j))
    → map g (gathered desks lists) ≡ gathered desks others
gathered_map g [] lists others same = refl
gathered_map g (i ∷ desks) lists others same =
    gathered_map_by g i desks lists others (lists i) refl (same i)
    (λ x left has. gathered_map g desks (with_left i left lists) (with_left i (map g left) others)
    (λ j. left_map g i j left lists others (i == j) refl (same j)))

module _ {S : Type 0} (desk : S → ℕ) (owner : S → Option ℕ) where
  -- the places of desk i
  abbrev pub at_desk : ℕ → List S → List S
  at_desk i sent = filter (λ s. desk s == i) sent

  -- a place of one of so many desks, of its owner's where it has one
  abbrev pub IsPlaced : (ℕ → ℕ) → ℕ → S → Type 0
  IsPlaced f desks s = (desk s < desks) × IfSome (owner s) (λ H. desk s ≡ f H)

  pub share_more : (i : ℕ) (s : S) (sent : List S) (here : Bool) → (desk s == i) ≡ here → at_desk i (s ∷ sent) ≡ (if here then s ∷ at_desk i sent else at_desk i sent)
  share_more i s sent true is = rw is refl
  share_more i s sent false is = rw is refl

  pub goes_home : (f : ℕ → ℕ) (H n : ℕ) (o : Option ℕ) → IfSome o (λ G. n ≡ f G) → is_holder H o ≡ true → (n == f H) ≡ true
  goes_home f H n None sent own = cc
  goes_home f H n (Some G) sent own = eq-eqb n (f H) (sent ∙ ap f (eqb-true G H own))

  -- H's places are H's places of H's desk
  mine_more : (H : ℕ) (s : S) (all some : List S) (mine here : Bool) → is_holder H (owner s) ≡ mine → (mine ≡ true → here ≡ true)
      → filter (λ x. is_holder H (owner x)) all ≡ filter (λ x. is_holder H (owner x)) some
      → filter (λ x. is_holder H (owner x)) (s ∷ all) ≡ filter (λ x. is_holder H (owner x)) (if here then s ∷ some else some)
  mine_more H s all some mine true is goes rest = rw (is, rest) refl
  mine_more H s all some true false is goes rest = absurd (let wrong = goes refl in cc)
  mine_more H s all some false false is goes rest = rw is rest

  pub mine_at_home : (f : ℕ → ℕ) (desks H : ℕ) (sent : List S) → AllByRecursion (IsPlaced f desks) sent
      → filter (λ x. is_holder H (owner x)) sent ≡ filter (λ x. is_holder H (owner x)) (at_desk (f H) sent)
  mine_at_home f desks H [] placed = refl
  mine_at_home f desks H (s ∷ sent) placed =
      mine_more H s sent (at_desk (f H) sent) (is_holder H (owner s)) (desk s == f H) refl
      (goes_home f H (desk s) (owner s) placed.0.1) (mine_at_home f desks H sent placed.1)
      ∙ ap (filter (λ x. is_holder H (owner x))) (sym (share_more (f H) s sent (desk s == f H) refl))

  module _ {X : Type 0} where
    -- what stands at H's places
    abbrev pub own : ℕ → List S → List X → List X
    own H [] xs = []
    own H (s ∷ sent) [] = []
    own H (s ∷ sent) (x ∷ xs) = if is_holder H (owner s) then x ∷ own H sent xs else own H sent xs

    own_more : (H : ℕ) (s : S) (sent : List S) (x : X) (xs : List X) (mine : Bool) → is_holder H (owner s) ≡ mine
        → own H (s ∷ sent) (x ∷ xs) ≡ (if mine then x ∷ own H sent xs else own H sent xs)
    own_more H s sent x xs true is = rw is refl
    own_more H s sent x xs false is = rw is refl

    -- each of so many desks has at least one thing for each of its places
    abbrev pub Fits : ℕ → List S → (ℕ → List X) → Type 0
    Fits desks sent lists = (i : ℕ) → i < desks → length (at_desk i sent) ≤ length (lists i)

    fits_rest_at : (i : ℕ) (s : S) (sent : List S) (lists : ℕ → List X) (x : X) (left : List X) (here : Bool) → (desk s == i) ≡ here → lists (desk s) ≡ x ∷ left
        → length (at_desk i (s ∷ sent)) ≤ length (lists i) → length (at_desk i sent) ≤ length (with_left (desk s) left lists i)
    fits_rest_at i s sent lists x left true is has fits =
        let list : length (lists i) ≡ suc (length left) = ap length (ap lists (sym (eqb-true (desk s) i is)) ∙ has) in
        let places : length (at_desk i (s ∷ sent)) ≡ suc (length (at_desk i sent)) = ap length (share_more i s sent true is) in
        let rest : length (with_left (desk s) left lists i) ≡ length left = ap length (left_more i (desk s) left lists true is) in
        omega (arith, list, places, rest, fits)
    fits_rest_at i s sent lists x left false is has fits =
        let places : length (at_desk i (s ∷ sent)) ≡ length (at_desk i sent) = ap length (share_more i s sent false is) in
        let rest : length (with_left (desk s) left lists i) ≡ length (lists i) = ap length (left_more i (desk s) left lists false is) in
        omega (arith, places, rest, fits)

    -- the first desk has something for its place
    not_empty : (s : S) (sent : List S) (lists : ℕ → List X) → lists (desk s) ≡ [] → length (at_desk (desk s) (s ∷ sent)) ≤ length (lists (desk s)) → ⊥
    not_empty s sent lists none fits =
        let list : length (lists (desk s)) ≡ 0 = ap length none in
        let places : length (at_desk (desk s) (s ∷ sent)) ≡ suc (length (at_desk (desk s) sent)) = ap length (share_more (desk s) s sent true (eq-eqb (desk s) (desk s) refl)) in
        omega (arith, list, places, fits)

    -- as much is gathered as there are places
    length_by : (desks : ℕ) (s : S) (sent : List S) (lists : ℕ → List X) (l : List X) → lists (desk s) ≡ l → desk s < desks → Fits desks (s ∷ sent) lists
        → ((x : X) (left : List X) → lists (desk s) ≡ x ∷ left → length (gathered (map desk sent) (with_left (desk s) left lists)) ≡ length sent)
        → length (first_and l (λ left. gathered (map desk sent) (with_left (desk s) left lists))) ≡ length (s ∷ sent)
    length_by desks s sent lists [] has below fits rest = absurd (not_empty s sent lists has (fits (desk s) below))
    length_by desks s sent lists (x ∷ left) has below fits rest = ap suc (rest x left has)

    pub length_gathered : (f : ℕ → ℕ) (desks : ℕ) (sent : List S) (lists : ℕ → List X) → AllByRecursion (IsPlaced f desks) sent → Fits desks sent lists
        → length (gathered (map desk sent) lists) ≡ length sent
    length_gathered f desks [] lists placed fits = refl
    length_gathered f desks (s ∷ sent) lists placed fits =
        length_by desks s sent lists (lists (desk s)) refl placed.0.0 fits
        (λ x left has. length_gathered f desks sent (with_left (desk s) left lists) placed.1
        (λ i below. fits_rest_at i s sent lists x left (desk s == i) refl has (fits i below)))

    -- what is gathered for H's places is what H's desk has for them
    own_step : (H i : ℕ) (s : S) (sent : List S) (lists : ℕ → List X) (x : X) (left rest : List X) (here mine : Bool)
        → (desk s == i) ≡ here → is_holder H (owner s) ≡ mine → (mine ≡ true → here ≡ true) → lists (desk s) ≡ x ∷ left
        → rest ≡ own H (at_desk i sent) (with_left (desk s) left lists i)
        → (if mine then x ∷ rest else rest) ≡ own H (at_desk i (s ∷ sent)) (lists i)
    own_step H i s sent lists x left rest true mine is theirs goes has same =
        let list : lists i ≡ x ∷ left = ap lists (sym (eqb-true (desk s) i is)) ∙ has in
        let behind : rest ≡ own H (at_desk i sent) left = same ∙ ap (own H (at_desk i sent)) (left_more i (desk s) left lists true is) in
        ap (λ (l : List X). if mine then x ∷ l else l) behind
        ∙ sym (own_more H s (at_desk i sent) x left mine theirs)
        ∙ ap₂ (own H) (sym (share_more i s sent true is)) (sym list)
    own_step H i s sent lists x left rest false true is theirs goes has same = absurd (let wrong = goes refl in cc)
    own_step H i s sent lists x left rest false false is theirs goes has same =
        same ∙ ap₂ (own H) (sym (share_more i s sent false is)) (left_more i (desk s) left lists false is)

    own_by : (f : ℕ → ℕ) (desks H : ℕ) (s : S) (sent : List S) (lists : ℕ → List X) (l : List X) → lists (desk s) ≡ l → IsPlaced f desks s → Fits desks (s ∷ sent) lists
        → ((x : X) (left : List X) → lists (desk s) ≡ x ∷ left
        → own H sent (gathered (map desk sent) (with_left (desk s) left lists)) ≡ own H (at_desk (f H) sent) (with_left (desk s) left lists (f H)))
        → own H (s ∷ sent) (first_and l (λ left. gathered (map desk sent) (with_left (desk s) left lists))) ≡ own H (at_desk (f H) (s ∷ sent)) (lists (f H))
    own_by f desks H s sent lists [] has placed fits rest = absurd (not_empty s sent lists has (fits (desk s) placed.0))
    own_by f desks H s sent lists (x ∷ left) has placed fits rest =
        let more = gathered (map desk sent) (with_left (desk s) left lists) in
        own_more H s sent x more (is_holder H (owner s)) refl
        ∙ own_step H (f H) s sent lists x left (own H sent more) (desk s == f H) (is_holder H (owner s)) refl refl
        (goes_home f H (desk s) (owner s) placed.1) has (rest x left has)

    pub gathered_own : (f : ℕ → ℕ) (desks H : ℕ) (sent : List S) (lists : ℕ → List X) → AllByRecursion (IsPlaced f desks) sent → Fits desks sent lists
        → own H sent (gathered (map desk sent) lists) ≡ own H (at_desk (f H) sent) (lists (f H))
    gathered_own f desks H [] lists placed fits = refl
    gathered_own f desks H (s ∷ sent) lists placed fits =
        own_by f desks H s sent lists (lists (desk s)) refl placed.0 fits
        (λ x left has. gathered_own f desks H sent (with_left (desk s) left lists) placed.1
        (λ i below. fits_rest_at i s sent lists x left (desk s == i) refl has (fits i below)))

    -- this holds of each place and what stands there
    abbrev pub Holds : (S → X → Type 0) → List S → List X → Type 0
    Holds R [] xs = Unit {0}
    Holds R (s ∷ sent) [] = Unit {0}
    Holds R (s ∷ sent) (x ∷ xs) = R s x × Holds R sent xs

    holds_rest : (R : S → X → Type 0) (i : ℕ) (s : S) (sent : List S) (lists : ℕ → List X) (x : X) (left : List X) (here : Bool) → (desk s == i) ≡ here → lists (desk s) ≡ x ∷ left
        → Holds R (at_desk i (s ∷ sent)) (lists i) → Holds R (at_desk i sent) (with_left (desk s) left lists i)
    holds_rest R i s sent lists x left true is has all =
        let list : lists i ≡ x ∷ left = ap lists (sym (eqb-true (desk s) i is)) ∙ has in
        let both : Holds R (s ∷ at_desk i sent) (x ∷ left) = subst (Holds R (s ∷ at_desk i sent)) list (subst (λ l. Holds R l (lists i)) (share_more i s sent true is) all) in
        subst (Holds R (at_desk i sent)) (sym (left_more i (desk s) left lists true is)) both.1
    holds_rest R i s sent lists x left false is has all =
        subst (Holds R (at_desk i sent)) (sym (left_more i (desk s) left lists false is)) (subst (λ l. Holds R l (lists i)) (share_more i s sent false is) all)

    holds_by : (R : S → X → Type 0) (s : S) (sent : List S) (lists : ℕ → List X) (l : List X) → lists (desk s) ≡ l → Holds R (at_desk (desk s) (s ∷ sent)) (lists (desk s))
        → ((x : X) (left : List X) → lists (desk s) ≡ x ∷ left → Holds R sent (gathered (map desk sent) (with_left (desk s) left lists)))
        → Holds R (s ∷ sent) (first_and l (λ left. gathered (map desk sent) (with_left (desk s) left lists)))
    holds_by R s sent lists [] has all rest = tt
    holds_by R s sent lists (x ∷ left) has all rest =
        let both : Holds R (s ∷ at_desk (desk s) sent) (x ∷ left) =
        subst (Holds R (s ∷ at_desk (desk s) sent)) has (subst (λ l. Holds R l (lists (desk s))) (share_more (desk s) s sent true (eq-eqb (desk s) (desk s) refl)) all) in
        (both.0, rest x left has)

    -- what holds of each desk's places holds of all, and of what is gathered for them
    pub gathered_holds : (R : S → X → Type 0) (f : ℕ → ℕ) (desks : ℕ) (sent : List S) (lists : ℕ → List X) → AllByRecursion (IsPlaced f desks) sent
        → ((i : ℕ) → i < desks → Holds R (at_desk i sent) (lists i)) → Holds R sent (gathered (map desk sent) lists)
    gathered_holds R f desks [] lists placed each = tt
    gathered_holds R f desks (s ∷ sent) lists placed each =
        holds_by R s sent lists (lists (desk s)) refl (each (desk s) placed.0.0)
        (λ x left has. gathered_holds R f desks sent (with_left (desk s) left lists) placed.1
        (λ i below. holds_rest R i s sent lists x left (desk s == i) refl has (each i below)))

    -- what stands behind the last place is nobody's
    pub own_take : (H : ℕ) (sent : List S) (xs : List X) → own H sent (take (length sent) xs) ≡ own H sent xs
    own_take H [] xs = refl
    own_take H (s ∷ sent) [] = refl
    own_take H (s ∷ sent) (x ∷ xs) =
        own_more H s sent x (take (length sent) xs) (is_holder H (owner s)) refl
        ∙ ap (λ (l : List X). if is_holder H (owner s) then x ∷ l else l) (own_take H sent xs)
        ∙ sym (own_more H s sent x xs (is_holder H (owner s)) refl)

    -- where no owner is, the same stands in both
    abbrev pub NobodysAlike : List S → List X → List X → Type 0
    NobodysAlike [] xs ys = Unit {0}
    NobodysAlike (s ∷ sent) [] ys = Unit {0}
    NobodysAlike (s ∷ sent) (x ∷ xs) [] = Unit {0}
    NobodysAlike (s ∷ sent) (x ∷ xs) (y ∷ ys) = (owner s ≡ None → x ≡ y) × NobodysAlike sent xs ys

    -- what nobody's place determines is the same in both
    pub nobodys_alike : (R : S → X → Type 0) → ((s : S) (x y : X) → owner s ≡ None → R s x → R s y → x ≡ y)
        → (sent : List S) (xs ys : List X) → Holds R sent xs → Holds R sent ys → NobodysAlike sent xs ys
    nobodys_alike R one [] xs ys first second = tt
    nobodys_alike R one (s ∷ sent) [] ys first second = tt
    nobodys_alike R one (s ∷ sent) (x ∷ xs) [] first second = tt
    nobodys_alike R one (s ∷ sent) (x ∷ xs) (y ∷ ys) first second =
        (λ none. one s x y none first.0 second.0, nobodys_alike R one sent xs ys first.1 second.1)

    heads_by : (s : S) (sent : List S) (x y : X) (xs ys : List X) (o : Option ℕ) → owner s ≡ o → (owner s ≡ None → x ≡ y)
        → ((H : ℕ) → own H (s ∷ sent) (x ∷ xs) ≡ own H (s ∷ sent) (y ∷ ys)) → x ≡ y
    heads_by s sent x y xs ys None is nobody each = nobody is
    heads_by s sent x y xs ys (Some K) is nobody each =
        let mine : is_holder K (owner s) ≡ true = ap (is_holder K) is ∙ eq-eqb K K refl in
        heads (sym (own_more K s sent x xs true mine) ∙ each K ∙ own_more K s sent y ys true mine)

    tails_by : (x y : X) (xs ys : List X) (b : Bool) → (if b then x ∷ xs else xs) ≡ (if b then y ∷ ys else ys) → xs ≡ ys
    tails_by x y xs ys true same = tails same
    tails_by x y xs ys false same = same

    -- what is the same at each holder's places, and where nobody owns, is the same
    pub same_places : (sent : List S) (xs ys : List X) → length xs ≡ length sent → length ys ≡ length sent → NobodysAlike sent xs ys
        → ((H : ℕ) → own H sent xs ≡ own H sent ys) → xs ≡ ys
    same_places [] [] [] one other nobodys each = refl
    same_places [] [] (y ∷ ys) one other nobodys each = absurd (omega (arith, other))
    same_places [] (x ∷ xs) ys one other nobodys each = absurd (omega (arith, one))
    same_places (s ∷ sent) [] ys one other nobodys each = absurd (omega (arith, one))
    same_places (s ∷ sent) (x ∷ xs) [] one other nobodys each = absurd (omega (arith, other))
    same_places (s ∷ sent) (x ∷ xs) (y ∷ ys) one other nobodys each =
        ap₂ (λ (z : X) (l : List X). z ∷ l) (heads_by s sent x y xs ys (owner s) refl nobodys.0 each)
        (same_places sent xs ys (omega (arith, one)) (omega (arith, other)) nobodys.1
        (λ H. tails_by x y (own H sent xs) (own H sent ys) (is_holder H (owner s)) (each H)))

  own_map_by : {X Y : Type 0} (g : X → Y) (b : Bool) (x : X) (xs : List X) → (if b then g x ∷ map g xs else map g xs) ≡ map g (if b then x ∷ xs else xs)
  own_map_by g true x xs = refl
  own_map_by g false x xs = refl

  pub own_map : {X Y : Type 0} (g : X → Y) (H : ℕ) (sent : List S) (xs : List X) → own H sent (map g xs) ≡ map g (own H sent xs)
  own_map g H [] xs = refl
  own_map g H (s ∷ sent) [] = refl
  own_map {X} {Y} g H (s ∷ sent) (x ∷ xs) =
      ap (λ (l : List Y). if is_holder H (owner s) then g x ∷ l else l) (own_map g H sent xs)
      ∙ own_map_by g (is_holder H (owner s)) x (own H sent xs)
