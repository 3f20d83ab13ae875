-- The routes of the desk, as a router keeps them.
use Rattle.std.specs.Prelude.{ℕ, List, [], ◌∷◌, ◌++◌, codes, Option, option_map}
use Rattle.matchit.specs.Rows.{RowsOf}
use Rattle.matchit.specs.Router.{RouteOf}
use Rattle.matchit.specs.Seek.{first}
use Rattle.sect_answer.specs.declared.target.Route.{Route}
use Rattle.sect_answer.specs.declared.target.Route.TheVariants.{Open, RegistrarAsk, Roll, StudentAsk, Schedule, Unmet, Waiting}

-- one route under its pattern, with the places of its parameters' names
abbrev row : List ℕ → List ℕ → List (ℕ × ℕ) → Route → List ℕ × RouteOf Route
row pattern text names route = (pattern, record { pattern = pattern; text = text; names = names; value = route })

-- the seven routes, in the order of a router
abbrev pub desk_routes : RowsOf (RouteOf Route)
desk_routes =
    row (codes "/offerings/" ++ (256 ∷ codes "/open")) (codes "/offerings/{id}/open") ((12, 14) ∷ []) Open
    ∷ row (codes "/registrars/" ++ (256 ∷ (codes "/asks/" ++ (256 ∷ [])))) (codes "/registrars/{id}/asks/{number}") ((13, 15) ∷ (23, 29) ∷ []) RegistrarAsk
    ∷ row (codes "/sections/" ++ (256 ∷ codes "/roll")) (codes "/sections/{id}/roll") ((11, 13) ∷ []) Roll
    ∷ row (codes "/students/" ++ (256 ∷ (codes "/asks/" ++ (256 ∷ [])))) (codes "/students/{id}/asks/{number}") ((11, 13) ∷ (21, 27) ∷ []) StudentAsk
    ∷ row (codes "/students/" ++ (256 ∷ [])) (codes "/students/{id}") ((11, 13) ∷ []) Schedule
    ∷ row (codes "/unmet") (codes "/unmet") [] Unmet
    ∷ row (codes "/waiting") (codes "/waiting") [] Waiting
    ∷ []

-- the route that the path matches
abbrev pub route_of : List ℕ → Option Route
route_of path = option_map (λ r. r.value) (first desk_routes path)
