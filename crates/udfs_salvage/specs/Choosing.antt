-- Which nodes of a volume are asked for by paths, as the report prints them.
--     goes_on front text      the text begins with this front and a `/`
--     is_under word text      an argument asks for the path of this text: it is that path, or a folder's above it; and `/` asks for all
--     is_chosen only path     one of the arguments asks for a path
--     chosen only nodes       the nodes that are asked for
--     is_node nodes word      the argument is a node's path
--     RootAsksForAll          `/` asks for all nodes
--     AsksByNames             an argument that is not empty asks for a path exactly where it is how its first names are printed, or all of them
use Rattle.std.specs.Prelude.{◌≡◌, ◌≢◌, ℕ, suc, ◌++◌, ◌||◌, Bool, true, List, [], ◌∷◌, codes, length, take}
use Rattle.std.specs.List.{filter, list_all, list_any}
use Rattle.std.specs.Str.{bytes_eq}
use Rattle.udfs_walk.specs.NodeFields.{NodeFields}
use Rattle.udfs_walk.specs.Unsettled.{is_whole}
use Rattle.udfs_salvage.specs.NodeTexts.{path_name}
use Rattle.udfs_salvage.specs.Reports.{all_whole}

-- the text begins with this front and a `/`
abbrev pub goes_on : List ℕ → List ℕ → Bool
goes_on front text = bytes_eq (take (suc (length front)) text) (front ++ codes "/")

-- the argument is the text of a path, or of a folder above it; `/` is above all
abbrev pub is_under : List ℕ → List ℕ → Bool
is_under word text = bytes_eq word (codes "/") || bytes_eq text word || goes_on word text

-- one of the arguments asks for the path
abbrev pub is_chosen : List (List ℕ) → List (List ℕ) → Bool
is_chosen only path = list_any (λ word. is_under word (path_name path)) only

-- the nodes that are asked for
abbrev pub chosen : List (List ℕ) → List NodeFields → List NodeFields
chosen only nodes = filter (λ n. is_chosen only n.path) nodes

-- the report prints this as a node's path
abbrev pub is_node : List NodeFields → List ℕ → Bool
is_node nodes word = list_any (λ n. bytes_eq (path_name n.path) word) nodes

-- An argument that is not empty asks for the paths that begin with the whole names that it prints: `/a` asks for `/a` and `/a/b`, and not for `/ab`.
abbrev pub AsksByNames : Type 0
AsksByNames = (word : List ℕ) (path : List (List ℕ)) → word ≢ []
    → (is_under word (path_name path) ≡ true → (k : ℕ) × (path_name (take k path) ≡ word)) × ((k : ℕ) → path_name (take k path) ≡ word → is_under word (path_name path) ≡ true)

-- `/` asks for all nodes; and, being one of them itself, for some
abbrev pub RootAsksForAll : Type 0
RootAsksForAll = (nodes : List NodeFields) → (chosen (codes "/" ∷ []) nodes ≡ nodes) × (list_all (is_node nodes) (codes "/" ∷ []) ≡ true → list_all (λ n. is_whole n.standing) nodes ≡ all_whole nodes)
