pub mod RulerLaws
