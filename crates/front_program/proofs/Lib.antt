pub mod ConsoleWordsLemmas
