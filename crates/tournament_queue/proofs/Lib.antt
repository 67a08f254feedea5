pub mod TournamentLemmas
