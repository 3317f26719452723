-- Nodes that are settled last are what is told of the ends of their routes.
use Rattle.std.proofs.Common.{◌≡◌, refl, sym, ◌∙◌, ap, subst, ℕ, ◌+◌, ◌<◌, ◌≤◌, Bool, true, false, List, [], ◌∷◌, ◌++◌, ◌&&◌, length, map, cond, nat_le, arith, take, drop, set, get_or}
use Rattle.std.specs.Prelude.{zero, suc, Contains}
use Rattle.std.proofs.lemmas.List.{get_or_default, length-map, map-append, take-append-drop, take_at}
use Rattle.std.proofs.lemmas.List.Edits.{map_over_more}
use Rattle.udfs_lattice.specs.Volumes.{ascending}
use Rattle.udfs_lattice.proofs.Inclusion.{here, there}
use Rattle.udfs_tag.specs.Fields.{number_of}
use Rattle.udfs_tag.specs.declared.layouts.LongAd.{LongAd}
use Rattle.udfs_space.specs.Places.{View}
use Rattle.udfs_file.specs.Bodies.{body}
use Rattle.udfs_file.specs.Entries.{EntryFields}
use Rattle.udfs_walk.specs.Bare.{bare_node, bare_standing, full_node}
use Rattle.udfs_walk.specs.Counting.{icb_key, icbs_of}
use Rattle.udfs_walk.specs.NodeFields.{NodeFields}
use Rattle.udfs_walk.specs.Nodes.{node, node_at, told}
use Rattle.udfs_walk.specs.Routes.{Walked, is_deep, is_loop}
use Rattle.udfs_walk.specs.Standings.{body_standing}
use Rattle.udfs_walk.specs.Targets.{Target, bad, unread, entry, icb_of, target}
use Rattle.udfs_walk.specs.Unsettled.{AreUnsettled, is_whole, settled, settled_at, unsettled, unsettled_at, waits}
use Rattle.udfs_walk.specs.Walks.{AreNodes}
use Rattle.udfs_walk.specs.declared.standings.Standing.{Standing}
use Rattle.udfs_walk.specs.declared.standings.Standing.TheVariants.{Whole, Loop}
use Rattle.udfs_walk.proofs.BareNodes.{full_again}
use Rattle.udfs_walk.proofs.CountLemmas.{few_icbs}

-- ---- one node
never : (b : Bool) → (b && false) ≡ false
never true = refl
never false = refl

-- a node that does not stand as whole is settled
stays : (v : View) (n : NodeFields) (t : Target) → is_whole n.standing ≡ false → cond (waits n) (settled_at v n t) n ≡ n
stays v n t e = ap (λ b. cond (nat_le 64 (length n.path) && b) (settled_at v n t) n) e ∙ ap (λ b. cond b (settled_at v n t) n) (never (nat_le 64 (length n.path)))

-- with fewer names too
short_stays : (v : View) (n : NodeFields) (t : Target) → nat_le 64 (length n.path) ≡ false → cond (waits n) (settled_at v n t) n ≡ n
short_stays v n t e = ap (λ b. cond (b && is_whole n.standing) (settled_at v n t) n) e

entry_settled : (v : View) (w : Walked) (e : EntryFields) (l d : Bool) → is_deep w ≡ d → (s : Bool → Standing)
    → s ≡ (λ b. body_standing v.profile e.kind b (body v w.address.reference w.address.block e))
    → cond (waits (told v.profile w e (cond l Loop (cond d Whole (bare_standing (s false)))))) (settled_at v (told v.profile w e (cond l Loop (cond d Whole (bare_standing (s false))))) (entry e))
    (told v.profile w e (cond l Loop (cond d Whole (bare_standing (s false))))) ≡ told v.profile w e (bare_standing (cond l Loop (s d)))
entry_settled v w e true d deep s is = stays v (told v.profile w e Loop) (entry e) refl
entry_settled v w e false true deep s is = ap (λ b. cond (b && true) (settled_at v (told v.profile w e Whole) (entry e)) (told v.profile w e Whole)) deep ∙ ap (λ f. told v.profile w e (bare_standing (f true))) (sym is)
entry_settled v w e false false deep s is = short_stays v (told v.profile w e (bare_standing (s false))) (entry e) deep

at_target : (v : View) (w : Walked) (t : Target) → cond (waits (unsettled_at v w t)) (settled_at v (unsettled_at v w t) t) (unsettled_at v w t) ≡ bare_node (node_at v w t)
at_target v w (bad f) = stays v (unsettled_at v w (bad f)) (bad f) refl
at_target v w (unread n) = stays v (unsettled_at v w (unread n)) (unread n) refl
at_target v w (entry e) = entry_settled v w e (is_loop w) (is_deep w) refl (λ b. body_standing v.profile e.kind b (body v w.address.reference w.address.block e)) refl

address_in : (v : View) (w : Walked) (t : Target) → (unsettled_at v w t).icb ≡ w.address
address_in v w (bad f) = refl
address_in v w (unread n) = refl
address_in v w (entry e) = refl

-- the node of a route, settled, is what is told of its end
settled_node : (v : View) (w : Walked) → settled v (unsettled v w) ≡ bare_node (node v w)
unfolding node unsettled settled
settled_node v w = ap (λ a. cond (waits n) (settled_at v n (target v a)) n) (address_in v w (target v w.address)) ∙ at_target v w (target v w.address)
  where
    n : NodeFields
    n = unsettled_at v w (target v w.address)

-- ---- what is done with one
pub not_waiting : (v : View) (n : NodeFields) → waits n ≡ false → n ≡ settled v n
unfolding settled
not_waiting v n e = sym (ap (λ b. cond b (settled_at v n (target v n.icb)) n) e)

pub waiting : (v : View) (n : NodeFields) (t : Target) → waits n ≡ true → t ≡ target v n.icb → settled_at v n t ≡ settled v n
unfolding settled
waiting v n t e is = ap (settled_at v n) is ∙ sym (ap (λ b. cond b (settled_at v n (target v n.icb)) n) e)

-- ---- all nodes
settled_nodes : (v : View) (ws : List Walked) → map (full_node v) (map (settled v) (map (unsettled v) ws)) ≡ map (node v) ws
settled_nodes v [] = refl
settled_nodes v (w ∷ ws) = λ i. (ap (full_node v) (settled_node v w) ∙ full_again v w) i ∷ settled_nodes v ws i

pub are_settled : (v : View) (root : LongAd) (nodes more : List NodeFields) → AreUnsettled v root nodes → more ≡ map (settled v) nodes → AreNodes v root (map (full_node v) more)
are_settled v root nodes more u e = record {
  walks = u.walks;
  walk = u.walk;
  few = u.few;
  is = ap (map (full_node v)) e ∙ ap (λ ns. map (full_node v) (map (settled v) ns)) u.is ∙ settled_nodes v u.walks;
}

-- ---- their information control blocks
kept_address : (v : View) (n : NodeFields) (b : Bool) (t : Target) → (cond b (settled_at v n t) n).icb ≡ n.icb
kept_address v n true (bad f) = refl
kept_address v n true (unread m) = refl
kept_address v n true (entry e) = refl
kept_address v n false t = refl

settled_key : (v : View) (n : NodeFields) → icb_key (settled v n) ≡ icb_key n
unfolding settled
settled_key v n = ap (λ (a : LongAd). number_of (icb_of a)) (kept_address v n (waits n) (target v n.icb))

pub settled_keys : (v : View) (ns : List NodeFields) → map icb_key (map (settled v) ns) ≡ map icb_key ns
settled_keys v [] = refl
settled_keys v (n ∷ ns) = λ i. settled_key v n i ∷ settled_keys v ns i

-- while some are settled and others are not
keys_stay : (v : View) (old new : List NodeFields) (i : ℕ) → new ≡ map (settled v) (take i old) ++ drop i old → map icb_key new ≡ map icb_key old
keys_stay v old new i e = ap (map icb_key) e ∙ map-append icb_key (map (settled v) (take i old)) (drop i old)
    ∙ ap (λ ks. ks ++ map icb_key (drop i old)) (settled_keys v (take i old))
    ∙ sym (map-append icb_key (take i old) (drop i old)) ∙ ap (map icb_key) (take-append-drop i old)

-- the one that is gone to is among them
has_key : (ns : List NodeFields) (i : ℕ) (d : NodeFields) → i < length ns → Contains (map icb_key ns) (icb_key (get_or ns i d))
has_key [] i d h = absurd (let z : ⊥ = omega (arith, h) in z)
has_key (m ∷ ns) zero d h = here (icb_key m) (map icb_key ns)
has_key (m ∷ ns) (suc i) d h = there (icb_key m) (map icb_key ns) (icb_key (get_or ns i d)) (has_key ns i d (omega (arith, h)))

pub key_within : (v : View) (old new : List NodeFields) (i : ℕ) (d : NodeFields) → i < length new → new ≡ map (settled v) (take i old) ++ drop i old → Contains (map icb_key old) (icb_key (get_or new i d))
key_within v old new i d h e = subst (λ ks. Contains ks (icb_key (get_or new i d))) (keys_stay v old new i e) (has_key new i d h)

-- and when it is settled too, one more is
pub settled_more : (v : View) (old new : List NodeFields) (i : ℕ) (d n : NodeFields) → i < length old → i < length new → new ≡ map (settled v) (take i old) ++ drop i old → n ≡ settled v (get_or new i d)
    → set new i n ≡ map (settled v) (take (i + 1) old) ++ drop (i + 1) old
settled_more v old new i d n h k e is = ap (set new i) is ∙ map_over_more (settled v) old new i (get_or new i d) h e (get_or_default new i d (get_or new i d) k)

-- there are as many
pub settled_icbs : (v : View) (nodes more : List NodeFields) → more ≡ map (settled v) nodes → icbs_of more ≡ icbs_of nodes
settled_icbs v nodes more e = ap icbs_of e ∙ ap ascending (settled_keys v nodes)

-- and no more than the limit of nodes
pub few_unsettled : (v : View) (root : LongAd) (nodes : List NodeFields) → AreUnsettled v root nodes → length (icbs_of nodes) ≤ 65536
few_unsettled v root nodes u =
    let once : length (icbs_of nodes) ≤ length nodes = few_icbs nodes in
    let same : length nodes ≡ length u.walks = ap length u.is ∙ length-map u.walks (unsettled v) in
    let few = u.few in
    omega (arith, once, same, few)

-- what was written to the nodes of a list is what the list has
pub written_back : (v : View) (old new : List NodeFields) (n : ℕ) → n ≡ length old → new ≡ map (settled v) old → take n (new ++ drop (length new) old) ≡ map (settled v) old
written_back v old new n h e = take_at new (drop (length new) old) n (ap length e ∙ length-map old (settled v) ∙ sym h) ∙ e
